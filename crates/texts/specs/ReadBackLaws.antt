-- Laws of printed numbers: read as a script's numbers are, they are the numbers that were to be printed.
-- Assumes nothing.
use Rattle.std.specs.Prelude.{◌≡◌, refl, Bool, true, false, cond, [], ◌∷◌, ℕ, zero, suc, ◌+◌, ◌*◌, ◌/◌, ◌%◌, ◌^◌, ◌≤◌, ◌<◌, ltb}
use Rattle.std.proofs.Common.{ap₂, ◌∙◌, div-add-mod', div-lt_iff_lt-mul, lt_of_lt_of_le, mod-lt, pow-suc, arith, lit<, lit≤, le-leb, ltb-true, ltb-false}
use Rattle.std.proofs.Math.Nat.{pow-zero}
use Rattle.std.proofs.lemmas.Bool.{lt-leb}
use Rattle.io.specs.Digits.{hex_digit_ascii, last_digits}
use Rattle.events.specs.Numbers.{digit_of, value_from, value_of}
use Rattle.events.specs.NumberLaws.{value_append}
use Rattle.texts.specs.Texts.{hex_text, decimal_text}

digit_by : (t : Bool) (d : ℕ) → ltb d 10 ≡ t → d < 16 → digit_of (cond t (48 + d) (87 + d)) ≡ d
unfolding digit_of
digit_by true d e h =
    let small = ltb-true d 10 e in simp (le-leb 48 (48 + d) (omega arith), le-leb (48 + d) 57 (omega arith)) (omega arith)
digit_by false d e h =
    let large = ltb-false d 10 e in
    simp (
      le-leb 48 (87 + d) (omega arith),
      lt-leb (87 + d) 57 (omega arith),
      le-leb 97 (87 + d) (omega arith),
      le-leb (87 + d) 102 (omega arith),
    )
    (omega arith)

pub digits_back : (b k n : ℕ) → 0 < b → b ≤ 16 → n < b ^ k → value_of b (last_digits b k n) ≡ n
unfolding value_of value_from
digits_back b zero n p h l = omega (arith, pow-zero b)
digits_back b (suc k) n p h l =
    let fewer : n / b < b ^ k = (div-lt_iff_lt-mul p).1 (rw pow-suc at l) in
    value_append b 0 (last_digits b k (n / b)) (hex_digit_ascii (n % b) ∷ [])
    ∙ ap₂ (λ (x y : ℕ). x * b + y) (digits_back b k (n / b) p h fewer) (digit_by (ltb (n % b) 10) (n % b) refl (lt_of_lt_of_le (mod-lt n p) h))
    ∙ div-add-mod' n b

pub decimal_back : (n : ℕ) → n < 1000 → value_of 10 (decimal_text n) ≡ n
unfolding decimal_text
decimal_back n h = by (ltb n 10) refl (ltb n 100) refl
  where
    by : (t : Bool) → ltb n 10 ≡ t → (u : Bool) → ltb n 100 ≡ u → value_of 10 (last_digits 10 (cond t 1 (cond u 2 3)) n) ≡ n
    by true e u g = digits_back 10 1 n (lit< tt) (lit≤ tt) (ltb-true n 10 e)
    by false e true g = digits_back 10 2 n (lit< tt) (lit≤ tt) (ltb-true n 100 g)
    by false e false g = digits_back 10 3 n (lit< tt) (lit≤ tt) h

pub hex_whole : (k n : ℕ) → n < 16 ^ k → value_of 16 (hex_text k n) ≡ n
unfolding hex_text
hex_whole k n h = digits_back 16 k n (lit< tt) (lit≤ tt) h
