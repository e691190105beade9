-- Laws of the numbers of a script.
-- Assumes nothing.
use Rattle.std.specs.Prelude.{◌≡◌, refl, Bool, true, false, ◌&&◌, eqb, ltb, leb, length, get_or, take, drop, Option, Some, None}
use Rattle.std.proofs.Common.{sym, ap₂, ◌∙◌, subst, lt_of_lt_of_le, mul-le-mul, mul-le-mul_right, mul_assoc, mul_comm, pow-suc, add-one, arith, lit<, lit≤, take-append-drop, length-drop, drop_of_length-le, length-take-le, drop-cons, ltb-true, ltb-false, lt-ltb, le-ltb, leb-true, eqb-true, eq-eqb}
use Rattle.std.proofs.Math.Path.{ap}
use Rattle.std.proofs.lemmas.Option.{same_Some}
use Rattle.std.proofs.Math.Bool.{and_assoc}
use mathlib.Core.List.{List, [], ◌∷◌, ◌++◌}
use Prim.Native.Nat.{ℕ, suc, ◌+◌, ◌-◌, ◌*◌, ◌^◌, ◌≤◌, ◌<◌, zero-le}
use Rattle.std.proofs.Math.Nat.{pow-zero, pow-le-pow_right}
use Rattle.code.specs.TestLaws.{and_first, and_second}
use Rattle.events.specs.Places.{index_of, index_after}
use Rattle.events.specs.Fields.{space}
use Rattle.events.specs.Numbers.{digit_of, is_numeral, value_from, value_of, is_decimal, is_hex, number_if}

-- ---- digits in two parts

numeral_append : (base : ℕ) (xs ys : List ℕ) → is_numeral base (xs ++ ys) ≡ (is_numeral base xs && is_numeral base ys)
unfolding is_numeral
numeral_append base [] ys = refl
numeral_append base (x ∷ xs) ys =
    ap (λ (t : Bool). ltb (digit_of x) base && t) (numeral_append base xs ys) ∙ sym (and_assoc (ltb (digit_of x) base) _ _)

pub value_append : (base n : ℕ) (xs ys : List ℕ) → value_from base n (xs ++ ys) ≡ value_from base (value_from base n xs) ys
unfolding value_from
value_append base n [] ys = refl
value_append base n (x ∷ xs) ys = value_append base (n * base + digit_of x) xs ys

hex_as : (n : ℕ) (s : List ℕ) → length s ≡ n → is_hex n s ≡ is_numeral 16 s
unfolding is_hex
hex_as n s e = rw (eq-eqb (length s) n e)

-- a pattern's word and check
pub pattern_parts : (p q : List ℕ) → length p ≡ 18 → q ≡ drop 16 p → is_hex 18 p ≡ (is_hex 16 (take 16 p) && is_hex 2 q)
pattern_parts p q e f =
    hex_as 18 p e
    ∙ ap (is_numeral 16) (sym (take-append-drop 16 p))
    ∙ numeral_append 16 (take 16 p) (drop 16 p)
    ∙ sym
    (ap₂ ◌&&◌ (hex_as 16 (take 16 p) (length-take-le 16 p (omega arith)))
    (ap (is_hex 2) f ∙ hex_as 2 (drop 16 p) (length-drop 16 p ∙ ap (λ (n : ℕ). n - 16) e)))

-- ---- how large a number can be

value_lt : (base n : ℕ) (s : List ℕ) → is_numeral base s ≡ true → value_from base n s < suc n * base ^ length s
unfolding is_numeral value_from
value_lt base n [] t = rw pow-zero (omega arith)
value_lt base n (b ∷ bs) t =
    let d : digit_of b < base = ltb-true _ base (and_first _ (is_numeral base bs) t) in
    let one : suc (n * base + digit_of b) ≤ suc n * base = omega arith in
    let power : suc n * base * base ^ length bs ≡ suc n * base ^ suc (length bs) =
    mul_assoc (suc n) base _ ∙ ap (λ (x : ℕ). suc n * x) (mul_comm base _ ∙ sym (pow-suc base (length bs))) in
    lt_of_lt_of_le (value_lt base (n * base + digit_of b) bs (and_second (ltb (digit_of b) base) _ t))
    (subst (λ (x : ℕ). suc (n * base + digit_of b) * base ^ length bs ≤ x) power (mul-le-mul_right (base ^ length bs) one))

-- ---- a number read digit by digit

-- v is the number of the first i bytes, which are digits, so that the rest decides
pub record Reached (base : ℕ) (s : List ℕ) (v i : ℕ) : Type 0 where
  pub inside : i ≤ length s
  pub small : v < 16 ^ i
  pub rest : number_if (is_numeral base s) (value_of base s) ≡ number_if (is_numeral base (drop i s)) (value_from base v (drop i s))

pub reached_none : (base : ℕ) (s : List ℕ) → Reached base s 0 0
unfolding value_of
reached_none base s = record { inside = zero-le; small = lit< tt; rest = refl }

module _ {base : ℕ} {s : List ℕ} {v i d : ℕ} (h : Reached base s v i) (l : i < length s) (e : d ≡ digit_of (get_or s i 0)) where
  next : {t : Bool} → ltb d base ≡ t → number_if (is_numeral base s) (value_of base s) ≡ number_if (t && is_numeral base (drop (suc i) s))
      (value_from base (v * base + d) (drop (suc i) s))
  unfolding is_numeral value_from
  next f =
      let more : ℕ → ℕ = λ x. value_from base (v * base + x) (drop (suc i) s) in
      h.rest
      ∙ ap (λ (x : List ℕ). number_if (is_numeral base x) (value_from base v x)) (drop-cons s i 0 l)
      ∙ ap (λ (x : ℕ). number_if (ltb x base && is_numeral base (drop (suc i) s)) (more x)) (sym e)
      ∙ ap (λ (t : Bool). number_if (t && is_numeral base (drop (suc i) s)) (more d)) f

  module _ (g : d < base) (b : base ≤ 16) where
    more_small : v * base + d < 16 ^ suc i
    more_small =
        let more : suc v * base ≤ 16 ^ i * 16 = mul-le-mul h.small b in
        rw pow-suc (omega arith)

    pub reached_more : Reached base s (v * base + d) (i + 1)
    reached_more = rw add-one (record { inside = l; small = more_small; rest = next (lt-ltb d base g) })

    -- sixteen digits fit 64 bits
    pub reached_fits : length s ≤ 16 → v * base + d < 2 ^ 64
    reached_fits n =
        let room : suc i ≤ 16 = omega arith in
        lt_of_lt_of_le more_small (pow-le-pow_right (lit< tt) room)

  -- a byte that is no digit makes the whole no numeral
  pub reached_stop : base ≤ d → None ≡ number_if (is_numeral base s) (value_of base s)
  reached_stop g = sym (next (le-ltb d base g))

-- what a byte was found to be: a digit x below the base, or none
pub digit_found : (x base : ℕ) {d : ℕ} → Some d ≡ number_if (ltb x base) x → (d ≡ x) × (d < base)
digit_found x base e = by (ltb x base) refl e
  where
    by : {d : ℕ} (t : Bool) → ltb x base ≡ t → Some d ≡ number_if t x → (d ≡ x) × (d < base)
    by true e f = (cc, let g = ltb-true x base e in omega (arith, same_Some _ _ f))
    by false e f = cc

pub no_digit_found : (x base : ℕ) → None ≡ number_if (ltb x base) x → base ≤ x
no_digit_found x base e = by (ltb x base) refl e
  where
    by : (t : Bool) → ltb x base ≡ t → None ≡ number_if t x → base ≤ x
    by true e f = cc
    by false e f = ltb-false x base e

pub reached_all : {base : ℕ} {s : List ℕ} {v i : ℕ} → Reached base s v i → length s ≤ i → Some v ≡ number_if (is_numeral base s)
    (value_of base s)
unfolding is_numeral value_from
reached_all {base} {s} {v} {i} h l = sym (h.rest ∙ rw (drop_of_length-le s l))

-- ---- what a field was found to be

-- a test held, and the number is x, below a bound
pub record Found (t : Bool) (v x bound : ℕ) : Type 0 where
  pub test : t ≡ true
  pub value : v ≡ x
  pub small : x < bound

found : {r : Option ℕ} (t : Bool) (v bound : ℕ) {x : ℕ} → (t ≡ true → v < bound) → r ≡ number_if t v → r ≡ Some x → Found t v x bound
found true v bound {x} h e f = let g : v ≡ x = cc in record { test = refl; value = g; small = subst (λ (n : ℕ). n < bound) g (h refl) }
found false v bound {x} h e f = cc

pub not_found : {r : Option ℕ} (t : Bool) (v : ℕ) → r ≡ number_if t v → r ≡ None → t ≡ false
not_found true v e f = cc
not_found false v e f = refl

pub decimal_length : (s : List ℕ) → is_decimal s ≡ true → length s ≤ 9
unfolding is_decimal
decimal_length s t = leb-true (length s) 9 (and_second (leb 1 (length s)) _ (and_first (leb 1 (length s) && leb (length s) 9) _ t))

decimal_numeral : (s : List ℕ) → is_decimal s ≡ true → is_numeral 10 s ≡ true
unfolding is_decimal
decimal_numeral s t = and_second (leb 1 (length s) && leb (length s) 9) _ t

-- nine decimal digits fit 32 bits
nine_lt : (s : List ℕ) → length s ≤ 9 → is_numeral 10 s ≡ true → value_of 10 s < 2 ^ 32
unfolding value_of
nine_lt s n t =
    let small : value_of 10 s < 1 * 10 ^ length s = value_lt 10 0 s t in
    let most : 10 ^ length s ≤ 10 ^ 9 = pow-le-pow_right (lit< tt) n in
    omega arith

pub numeral_small : (s : List ℕ) {x : ℕ} → length s ≤ 9 → Some x ≡ number_if (is_numeral 10 s) (value_of 10 s) → x < 2 ^ 32
numeral_small s n e = (found (is_numeral 10 s) (value_of 10 s) (2 ^ 32) (nine_lt s n) e refl).small

decimal_lt : (s : List ℕ) → is_decimal s ≡ true → value_of 10 s < 2 ^ 32
decimal_lt s t = nine_lt s (decimal_length s t) (decimal_numeral s t)

pub found_decimal : {r : Option ℕ} (s : List ℕ) {x : ℕ} → r ≡ number_if (is_decimal s) (value_of 10 s) → r ≡ Some x → Found (is_decimal s)
    (value_of 10 s) x (2 ^ 32)
found_decimal s = found (is_decimal s) (value_of 10 s) (2 ^ 32) (decimal_lt s)

-- n hexadecimal digits are below 16 ^ n
pub found_hex : {r : Option ℕ} (n : ℕ) (s : List ℕ) {x : ℕ} → r ≡ number_if (is_hex n s) (value_of 16 s) → r ≡ Some x → Found (is_hex n s)
    (value_of 16 s) x (16 ^ n)
unfolding is_hex value_of
found_hex n s =
    found (is_hex n s) (value_of 16 s) (16 ^ n)
    (λ t.
    let small : value_of 16 s < 1 * 16 ^ length s = value_lt 16 0 s (and_second (eqb (length s) n) _ t) in
    let size : length s ≡ n = eqb-true (length s) n (and_first (eqb (length s) n) _ t) in
    subst (λ (k : ℕ). value_of 16 s < 16 ^ k) size (omega arith))

pub two_hex_small : (s : List ℕ) {x : ℕ} → Some x ≡ number_if (is_hex 2 s) (value_of 16 s) → x < 2 ^ 8
two_hex_small s e = (found_hex 2 s e refl).small

-- ---- a field with a space in it is no number

no_space : (t : Bool) (base b p n : ℕ) → (t ≡ true → b ≡ space) → base ≤ 16 → digit_of b < base → p ≡ n → index_after t p ≡ suc n
unfolding index_after digit_of
no_space true base b p n e h d q = let f : digit_of b ≡ 16 = ap digit_of (e refl) in absurd (omega arith)
no_space false base b p n e h d q = ap suc q

numeral_whole : (base : ℕ) (s : List ℕ) → base ≤ 16 → is_numeral base s ≡ true → index_of space s ≡ length s
unfolding is_numeral index_of
numeral_whole base [] h t = refl
numeral_whole base (b ∷ bs) h t =
    no_space (eqb b space) base b (index_of space bs) (length bs) (eqb-true b space) h (ltb-true _ base (and_first _ (is_numeral base bs) t))
    (numeral_whole base bs h (and_second (ltb (digit_of b) base) _ t))

module _ (s : List ℕ) (l : index_of space s < length s) where
  no_numeral : (t : Bool) (base : ℕ) → base ≤ 16 → (t ≡ true → is_numeral base s ≡ true) → t ≡ false
  no_numeral true base h g = let e = numeral_whole base s h (g refl) in absurd (omega arith)
  no_numeral false base h g = refl

  pub space_decimal : is_decimal s ≡ false
  space_decimal = no_numeral (is_decimal s) 10 (lit≤ tt) (decimal_numeral s)

  pub space_hex : (n : ℕ) → is_hex n s ≡ false
  unfolding is_hex
  space_hex n = no_numeral (is_hex n s) 16 (lit≤ tt) (λ t. and_second (eqb (length s) n) _ t)
