-- Laws of numbers from a first one upwards, of a list without a number, and of sums over them.
-- Assumes nothing.
use Rattle.std.specs.Prelude.{◌≡◌, refl, ◌≢◌, Bool, true, false, cond, List, [], ◌∷◌, ℕ, zero, suc, ◌+◌, ◌≤◌, ◌<◌, eqb, length}
use Rattle.std.proofs.Common.{sym, ap, ap₂, ◌∙◌, zero-le, add_assoc, zero-add, arith, eqb-true, ne_eqb}
use Rattle.std.proofs.lemmas.Bool.{eqb-false}
use Rattle.code.specs.Lists.{up_from, without, sum_of}

pub length_up_from : (l n : ℕ) → length (up_from l n) ≡ n
length_up_from l zero = refl
length_up_from l (suc n) = ap suc (length_up_from (suc l) n)

-- a number below the first is not in the list
without_below : (l f n : ℕ) → l < f → without l (up_from f n) ≡ up_from f n
without_below l f zero h = refl
without_below l f (suc n) h =
    ap (λ (t : Bool). cond t (without l (up_from (suc f) n)) (f ∷ without l (up_from (suc f) n))) (ne_eqb f l (λ e. omega (arith, e)))
    ∙ ap (λ (ls : List ℕ). f ∷ ls) (without_below l (suc f) n (omega arith))

-- one that is in it is taken out once
pub length_without : (l f n : ℕ) → f ≤ l → l < f + n → length (without l (up_from f n)) + 1 ≡ n
length_without l f zero h g = absurd (omega (arith, h, g))
length_without l f (suc n) h g = by (λ b. length_without l (suc f) n b (omega arith)) (eqb f l) refl
  where
    rest : List ℕ
    rest = up_from (suc f) n

    by : (suc f ≤ l → length (without l rest) + 1 ≡ n) → (b : Bool) → eqb f l ≡ b
        → length (cond (eqb f l) (without l rest) (f ∷ without l rest)) + 1 ≡ suc n
    by more true e =
        let here : length (cond (eqb f l) (without l rest) (f ∷ without l rest)) ≡ n =
        ap (λ (t : Bool). length (cond t (without l rest) (f ∷ without l rest))) e
        ∙ ap length (without_below l (suc f) n (omega (arith, eqb-true f l e)))
        ∙ length_up_from (suc f) n in
        omega (arith, here)
    by more false e =
        let ne : f ≢ l = eqb-false f l e in
        let one : length (without l rest) + 1 ≡ n = more (omega (arith, ne)) in
        let here : length (cond (eqb f l) (without l rest) (f ∷ without l rest)) ≡ suc (length (without l rest)) =
        ap (λ (t : Bool). length (cond t (without l rest) (f ∷ without l rest))) e in
        omega (arith, one, here)

-- and no list grows by it
pub without_most : (l : ℕ) (ls : List ℕ) → length (without l ls) ≤ length ls
without_most l [] = zero-le
without_most l (j ∷ js) = by (without_most l js) (eqb j l)
  where
    by : length (without l js) ≤ length js → (b : Bool) → length (cond b (without l js) (j ∷ without l js)) ≤ suc (length js)
    by rest true = omega (arith, rest)
    by rest false = omega (arith, rest)

-- ---- sums

-- the sum without a number leaves its part out
pub sum_without : (f : ℕ → ℕ) (l : ℕ) (ls : List ℕ) → sum_of f (without l ls) ≡ sum_of (λ j. cond (eqb j l) 0 (f j)) ls
sum_without f l [] = refl
sum_without f l (j ∷ js) = by (sum_without f l js) (eqb j l)
  where
    others : ℕ
    others = sum_of (λ i. cond (eqb i l) 0 (f i)) js

    by : sum_of f (without l js) ≡ others → (b : Bool) → sum_of f (cond b (without l js) (j ∷ without l js)) ≡ cond b 0 (f j) + others
    by rest true = rest ∙ sym (zero-add others)
    by rest false = ap (λ (n : ℕ). f j + n) rest

-- a sum of ones is the length
pub sum_ones : (ls : List ℕ) → sum_of (λ j. 1) ls ≡ length ls
sum_ones [] = refl
sum_ones (j ∷ js) =
    let rest : sum_of (λ j. 1) js ≡ length js = sum_ones js in
    omega (arith, rest)

-- what agrees at each number has the same sum
pub sum_range : (f g : ℕ → ℕ) (a n : ℕ) → ((j : ℕ) → a ≤ j → j < a + n → f j ≡ g j) → sum_of f (up_from a n) ≡ sum_of g (up_from a n)
sum_range f g a zero h = refl
sum_range f g a (suc n) h =
    ap₂ (λ (x y : ℕ). x + y) (h a (omega arith) (omega arith)) (sum_range f g (suc a) n (λ j l u. h j (omega (arith, l)) (omega (arith, u))))

pub sum_none : (f : ℕ → ℕ) (a n : ℕ) → ((j : ℕ) → a ≤ j → j < a + n → f j ≡ 0) → sum_of f (up_from a n) ≡ 0
sum_none f a zero h = refl
sum_none f a (suc n) h =
    let here : f a ≡ 0 = h a (omega arith) (omega arith) in
    let rest : sum_of f (up_from (suc a) n) ≡ 0 = sum_none f (suc a) n (λ j l u. h j (omega (arith, l)) (omega (arith, u))) in
    omega (arith, here, rest)

-- a range in two parts
pub sum_parts : (f : ℕ → ℕ) (a i j : ℕ) → sum_of f (up_from a (i + j)) ≡ sum_of f (up_from a i) + sum_of f (up_from (a + i) j)
sum_parts f a zero j =
    let start : a ≡ a + 0 = omega arith in
    ap (λ (n : ℕ). sum_of f (up_from a n)) (zero-add j) ∙ ap (λ (b : ℕ). sum_of f (up_from b j)) start ∙ sym (zero-add _)
sum_parts f a (suc i) j =
    let start : suc a + i ≡ a + suc i = omega arith in
    let size : suc i + j ≡ suc (i + j) = omega arith in
    ap (λ (n : ℕ). sum_of f (up_from a n)) size
    ∙ ap (λ (n : ℕ). f a + n) (sum_parts f (suc a) i j)
    ∙ sym (add_assoc (f a) (sum_of f (up_from (suc a) i)) (sum_of f (up_from (suc a + i) j)))
    ∙ ap (λ (b : ℕ). f a + sum_of f (up_from (suc a) i) + sum_of f (up_from b j)) start
