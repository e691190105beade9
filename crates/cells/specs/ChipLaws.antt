-- Laws of what functions and tests give over the chips of a line, and of masks.
-- Assumes nothing.
use Rattle.std.proofs.Common.{◌≡◌, refl, Bool, true, false, not, ◌&&◌, cond, List, [], ◌∷◌, ◌++◌, ℕ, zero, suc, ◌+◌, ◌-◌, ◌*◌, ◌/◌, ◌%◌, ◌^◌, ◌≤◌, ◌<◌, length, get_or, take, eqb, sym, ap, ap₂, ◌∙◌, subst, ⊎_elim, zero-le, pow-suc, mul_comm, mul_assoc, eq-or-lt_of_le, sub-add_cancel, zero-mul, add-zero, add_comm, le_of_suc-le-suc, not-suc-le-zero, zero-lt-suc, add-one, arith, pow_pos, pow-add, length-append, take-suc, take_all, eq-eqb, ne_eqb, eqb-true}
use Rattle.std.proofs.Math.Nat.{add-mul-div_right, mul-add-mod_self_right}
use Rattle.std.proofs.Math.Arith.{digits_lt}
use Rattle.std.proofs.Math.ListN.{get_or-append}
use Rattle.std.proofs.Math.Pow.{high}
use Rattle.std.specs.Int.Bits.{bit_and, bit_xor, xor_zero_r}
use Rattle.std.proofs.lemmas.Nat.{and_block, xor_block, xor_lt, ones_cat}
use Rattle.std.proofs.lemmas.List.{get_or_at}
use Rattle.std.proofs.lemmas.Bool.{eqb-false, not-false}
use Rattle.std.specs.Int.Count.{ones, ones_in}
use Rattle.code.specs.XorLaws.{xor_four, xor_cancel_r}
use Rattle.cells.specs.Chips.{of_chips, joined, xor_all, bit, count, mask, in_mask}

-- a number k below n + 1 is n or below n
pub last : {A : Type 0} {k n : ℕ} → k < suc n → (k ≡ n → A) → (k < n → A) → A
last h f g = ⊎_elim f g (eq-or-lt_of_le (le_of_suc-le-suc h))

-- ---- values

pub length_of_chips : (f : ℕ → ℕ) (n : ℕ) → length (of_chips f n) ≡ n
unfolding of_chips
length_of_chips f zero = refl
length_of_chips f (suc n) = length-append (of_chips f n) (f n ∷ []) ∙ ap (λ (x : ℕ). x + 1) (length_of_chips f n) ∙ add-one n

-- f of chip k stands at its place
pub get_d_of_chips : (f : ℕ → ℕ) (n k : ℕ) → k < n → get_or (of_chips f n) k 0 ≡ f k
unfolding of_chips
get_d_of_chips f zero k h = absurd (not-suc-le-zero h)
get_d_of_chips f (suc n) k h =
    last h
    (λ (e : k ≡ n). ap (λ (i : ℕ). get_or (of_chips f n ++ (f n ∷ [])) i 0) e ∙ get_or_at (of_chips f n) (f n) [] 0 n (length_of_chips f n) ∙ ap f (sym e))
    (λ (l : k < n). get_or-append (of_chips f n) (f n ∷ []) 0 k (omega (arith, length_of_chips f n)) ∙ get_d_of_chips f n k l)

-- ---- what agrees at each chip agrees

pub of_chips_ext : (f g : ℕ → ℕ) (n : ℕ) → ((k : ℕ) → k < n → f k ≡ g k) → of_chips f n ≡ of_chips g n
unfolding of_chips
of_chips_ext f g zero h = refl
of_chips_ext f g (suc n) h = ap₂ (λ (a : List ℕ) (b : ℕ). a ++ (b ∷ [])) (of_chips_ext f g n (λ k l. h k (omega arith))) (h n (omega arith))

pub joined_ext : (f g : ℕ → List ℕ) (n : ℕ) → ((k : ℕ) → k < n → f k ≡ g k) → joined f n ≡ joined g n
unfolding joined
joined_ext f g zero h = refl
joined_ext f g (suc n) h = ap₂ ◌++◌ (joined_ext f g n (λ k l. h k (omega arith))) (h n (omega arith))

pub xor_all_ext : (f g : ℕ → ℕ) (n : ℕ) → ((k : ℕ) → k < n → f k ≡ g k) → xor_all f n ≡ xor_all g n
unfolding xor_all
xor_all_ext f g zero h = refl
xor_all_ext f g (suc n) h = ap₂ bit_xor (xor_all_ext f g n (λ k l. h k (omega arith))) (h n (omega arith))

pub count_ext : (p q : ℕ → Bool) (n : ℕ) → ((k : ℕ) → k < n → p k ≡ q k) → count p n ≡ count q n
unfolding count
count_ext p q zero h = refl
count_ext p q (suc n) h = ap₂ (λ (m : ℕ) (b : Bool). m + bit b) (count_ext p q n (λ k l. h k (omega arith))) (h n (omega arith))

pub mask_ext : (p q : ℕ → Bool) (n : ℕ) → ((k : ℕ) → k < n → p k ≡ q k) → mask p n ≡ mask q n
unfolding mask
mask_ext p q zero h = refl
mask_ext p q (suc n) h = ap₂ (λ (b : Bool) (m : ℕ). bit b * 2 ^ n + m) (h n (omega arith)) (mask_ext p q n (λ k l. h k (omega arith)))

-- ---- xor over the chips

pub xor_all_xor : (f g : ℕ → ℕ) (n : ℕ) → xor_all (λ k. bit_xor (f k) (g k)) n ≡ bit_xor (xor_all f n) (xor_all g n)
unfolding xor_all
xor_all_xor f g zero = refl
xor_all_xor f g (suc n) = ap (λ (x : ℕ). bit_xor x (bit_xor (f n) (g n))) (xor_all_xor f g n) ∙ xor_four (xor_all f n) (xor_all g n) (f n) (g n)

pub xor_all_lt : (f : ℕ → ℕ) (i n : ℕ) → ((k : ℕ) → k < n → f k < 2 ^ i) → xor_all f n < 2 ^ i
unfolding xor_all
xor_all_lt f i zero h = pow_pos i
xor_all_lt f i (suc n) h = xor_lt i (xor_all f n) (f n) (xor_all_lt f i n (λ k l. h k (omega arith))) (h n (omega arith))

-- the xor is zero where f is zero at each chip
pub xor_all_zero : (f : ℕ → ℕ) (n : ℕ) → ((k : ℕ) → k < n → f k ≡ 0) → xor_all f n ≡ 0
unfolding xor_all
xor_all_zero f zero h = refl
xor_all_zero f (suc n) h = ap₂ bit_xor (xor_all_zero f n (λ k l. h k (omega arith))) (h n (omega arith))

-- it is f j where f is zero at each chip but j
pub xor_all_one : (f : ℕ → ℕ) (n j : ℕ) → j < n → ((k : ℕ) → k < n → (k ≡ j → ⊥) → f k ≡ 0) → xor_all f n ≡ f j
unfolding xor_all
xor_all_one f zero j l h = absurd (not-suc-le-zero l)
xor_all_one f (suc n) j l h =
    last l
    (λ (e : j ≡ n). ap₂ bit_xor (xor_all_zero f n (λ k i. h k (omega arith) (λ q. omega arith))) (ap f (sym e)))
    (λ (i : j < n).
    ap₂ bit_xor (xor_all_one f n j i (λ k m q. h k (omega arith) q)) (h n (omega arith) (λ q. omega arith)) ∙ xor_zero_r (f j))

apart : (b : Bool) (x : ℕ) → x ≡ bit_xor (cond b 0 x) (cond b x 0)
apart true x = refl
apart false x = sym (xor_zero_r x)

-- the xor of all chips is that of the chips but j, xor chip j's
pub xor_all_but : (f : ℕ → ℕ) (n j : ℕ) → j < n → xor_all f n ≡ bit_xor (xor_all (λ k. cond (eqb k j) 0 (f k)) n) (f j)
xor_all_but f n j l =
    xor_all_ext f (λ k. bit_xor (rest k) (only k)) n (λ k _. apart (eqb k j) (f k))
    ∙ xor_all_xor rest only n
    ∙ ap (bit_xor (xor_all rest n)) (xor_all_one only n j l (λ k _ ne. rw (ne_eqb k j ne)) ∙ rw (eq-eqb j j refl))
  where
    rest : ℕ → ℕ
    rest k = cond (eqb k j) 0 (f k)

    only : ℕ → ℕ
    only k = cond (eqb k j) (f k) 0

-- where g is f at each chip but j, f's value at j is taken off the xor and g's put in
pub xor_all_change : (f g : ℕ → ℕ) (n j : ℕ) → j < n → ((k : ℕ) → k < n → (k ≡ j → ⊥) → f k ≡ g k)
    → bit_xor (bit_xor (xor_all f n) (f j)) (g j) ≡ xor_all g n
xor_all_change f g n j l h =
    ap (λ (x : ℕ). bit_xor (bit_xor x (f j)) (g j)) (xor_all_but f n j l)
    ∙ ap (λ (x : ℕ). bit_xor x (g j)) (xor_cancel_r (xor_all (λ k. cond (eqb k j) 0 (f k)) n) (f j))
    ∙ ap (λ (x : ℕ). bit_xor x (g j)) (xor_all_ext _ (λ k. cond (eqb k j) 0 (g k)) n (λ k i. pick k i (eqb k j) refl))
    ∙ sym (xor_all_but g n j l)
  where
    pick : (k : ℕ) → k < n → (b : Bool) → eqb k j ≡ b → cond b 0 (f k) ≡ cond b 0 (g k)
    pick k i true e = refl
    pick k i false e = h k i (eqb-false k j e)

-- ---- masks

pub bit_lt : (b : Bool) → bit b < 2
bit_lt true = omega arith
bit_lt false = omega arith

pub mask_lt : (p : ℕ → Bool) (n : ℕ) → mask p n < 2 ^ n
unfolding mask
mask_lt p zero = zero-lt-suc 0
mask_lt p (suc n) =
    subst (λ (x : ℕ). mask p (suc n) < x) (mul_comm 2 (2 ^ n) ∙ sym (pow-suc 2 n)) (digits_lt (bit_lt (p n)) (mask_lt p n))

-- a bit above place k says nothing of place k
bit_above : (b n m k : ℕ) → k < n → (b * 2 ^ n + m) / 2 ^ k % 2 ≡ m / 2 ^ k % 2
bit_above b n m k h =
    ap (λ (x : ℕ). (b * 2 ^ x + m) / 2 ^ k % 2) (sym (sub-add_cancel h) ∙ split)
    ∙ ap (λ (x : ℕ). (x + m) / 2 ^ k % 2) (ap (λ (x : ℕ). b * x) (pow-add 2 (suc j) k) ∙ sym (mul_assoc b (2 ^ suc j) (2 ^ k)))
    ∙ ap (λ (x : ℕ). x / 2 ^ k % 2) (add_comm (b * 2 ^ suc j * 2 ^ k) m)
    ∙ ap (λ (x : ℕ). x % 2) (add-mul-div_right m (b * 2 ^ suc j) (pow_pos k) ∙ add_comm (m / 2 ^ k) (b * 2 ^ suc j))
    ∙ ap (λ (x : ℕ). (x + m / 2 ^ k) % 2) (ap (λ (x : ℕ). b * x) (pow-suc 2 j) ∙ sym (mul_assoc b (2 ^ j) 2))
    ∙ mul-add-mod_self_right (b * 2 ^ j) 2 (m / 2 ^ k)
  where
    j : ℕ
    j = n - suc k

    split : n - suc k + suc k ≡ suc (n - suc k) + k
    split = omega arith

bit_is : (b : Bool) → eqb (bit b % 2) 1 ≡ b
bit_is true = refl
bit_is false = refl

-- a chip is in the mask of a test where it passes the test
pub in_mask_lem : (p : ℕ → Bool) (n k : ℕ) → k < n → in_mask (mask p n) k ≡ p k
unfolding in_mask mask
in_mask_lem p zero k h = absurd (not-suc-le-zero h)
in_mask_lem p (suc n) k h =
    last h
    (λ (e : k ≡ n).
    ap (λ (x : ℕ). eqb ((bit (p n) * 2 ^ n + mask p n) / 2 ^ x % 2) 1) e
    ∙ ap (λ (x : ℕ). eqb (x % 2) 1) (high (bit (p n)) n (mask_lt p n))
    ∙ bit_is (p n)
    ∙ ap p (sym e))
    (λ (l : k < n). ap (λ (x : ℕ). eqb x 1) (bit_above (bit (p n)) n (mask p n) k l) ∙ in_mask_lem p n k l)

-- the chips of both masks
and_bit : (a b : Bool) → bit_and (bit a) (bit b) ≡ bit (a && b)
and_bit true true = refl
and_bit true false = refl
and_bit false true = refl
and_bit false false = refl

pub and_masks : (p q : ℕ → Bool) (n : ℕ) → bit_and (mask p n) (mask q n) ≡ mask (λ k. p k && q k) n
unfolding mask
and_masks p q zero = refl
and_masks p q (suc n) =
    and_block n (bit (p n)) (bit (q n)) (mask p n) (mask q n) (mask_lt p n) (mask_lt q n)
    ∙ ap₂ (λ (a b : ℕ). a * 2 ^ n + b) (and_bit (p n) (q n)) (and_masks p q n)

-- the chips of the first mask that are not in the second
rest_bit : (a b : Bool) → bit_xor (bit a) (bit (a && b)) ≡ bit (a && not b)
rest_bit true true = refl
rest_bit true false = refl
rest_bit false true = refl
rest_bit false false = refl

pub rest_mask : (p q : ℕ → Bool) (n : ℕ) → bit_xor (mask p n) (mask (λ k. p k && q k) n) ≡ mask (λ k. p k && not (q k)) n
unfolding mask
rest_mask p q zero = refl
rest_mask p q (suc n) =
    xor_block n (bit (p n)) (bit (p n && q n)) (mask p n) (mask (λ k. p k && q k) n) (mask_lt p n) (mask_lt (λ k. p k && q k) n)
    ∙ ap₂ (λ (a b : ℕ). a * 2 ^ n + b) (rest_bit (p n) (q n)) (rest_mask p q n)

-- the set bits of a mask are its chips
ones_bit : (b : Bool) → ones (bit b) ≡ bit b
unfolding ones
ones_bit true = refl
ones_bit false = refl

pub ones_mask : (p : ℕ → Bool) (n : ℕ) → ones (mask p n) ≡ count p n
unfolding mask count ones
ones_mask p zero = refl
ones_mask p (suc n) =
    ones_cat n (bit (p n)) (mask p n) (mask_lt p n) ∙ ap₂ ◌+◌ (ones_bit (p n)) (ones_mask p n) ∙ add_comm (bit (p n)) (count p n)

-- ---- counts

bit_none : (b : Bool) → bit b ≡ 0 → b ≡ false
bit_none true e = absurd (omega arith)
bit_none false e = refl

-- where no chip is counted, none passes the test
pub count_none : (p : ℕ → Bool) (n : ℕ) → count p n ≡ 0 → (k : ℕ) → k < n → p k ≡ false
unfolding count
count_none p zero e k h = absurd (not-suc-le-zero h)
count_none p (suc n) e k h =
    last h (λ (i : k ≡ n). ap p i ∙ bit_none (p n) (omega arith)) (λ (i : k < n). count_none p n (omega arith) k i)

-- where none of n chips is counted and the next does not pass the test, none of n + 1 is
pub count_next : (p : ℕ → Bool) (n : ℕ) → count p n ≡ 0 → p n ≡ false → count p (suc n) ≡ 0
unfolding count
count_next p n c e = omega (arith, ap bit e)

-- a chip that passes the test is counted
pub count_some : (p : ℕ → Bool) (n k : ℕ) → k < n → p k ≡ true → 1 ≤ count p n
unfolding count
count_some p zero k h e = absurd (not-suc-le-zero h)
count_some p (suc n) k h e =
    last h (λ (i : k ≡ n). omega (arith, ap bit (sym (ap p i) ∙ e))) (λ (i : k < n). omega (arith, count_some p n k i e))

-- where no more than one chip is counted, two that pass the test are one
pub count_one : (p : ℕ → Bool) (n : ℕ) → count p n ≤ 1 → (j k : ℕ) → j < n → k < n → p j ≡ true → p k ≡ true → j ≡ k
unfolding count
count_one p zero c j k hj hk ej ek = absurd (not-suc-le-zero hj)
count_one p (suc n) c j k hj hk ej ek =
    last hj
    (λ (ij : j ≡ n). last hk (λ (ik : k ≡ n). ij ∙ sym ik) (λ (ik : k < n). absurd (two j ij ej k ik ek)))
    (λ (ij : j < n). last hk (λ (ik : k ≡ n). absurd (two k ik ek j ij ej)) (λ (ik : k < n). count_one p n (omega arith) j k ij ik ej ek))
  where
    two : (i : ℕ) → i ≡ n → p i ≡ true → (l : ℕ) → l < n → p l ≡ true → ⊥
    two i q e l h f = omega (arith, ap bit (sym (ap p q) ∙ e), count_some p n l h f)

bit_le : (a b : Bool) → (a ≡ true → b ≡ true) → bit a ≤ bit b
bit_le true b f = omega (arith, ap bit (f refl))
bit_le false b f = zero-le

bit_some : (b : Bool) → 1 ≤ bit b → b ≡ true
bit_some true h = refl
bit_some false h = absurd (not-suc-le-zero h)

-- where each chip that passes p passes q, no more pass p than q
pub count_le : (p q : ℕ → Bool) (n : ℕ) → ((k : ℕ) → k < n → p k ≡ true → q k ≡ true) → count p n ≤ count q n
unfolding count
count_le p q zero h = zero-le
count_le p q (suc n) h =
    omega (arith, count_le p q n (λ k l. h k (omega arith)), bit_le (p n) (q n) (h n (omega arith)))

-- where f is other than zero at no more than one chip, the xor is zero exactly if f is zero at each chip
pub xor_all_few : (f : ℕ → ℕ) (n : ℕ) → count (λ k. not (eqb (f k) 0)) n ≤ 1
    → eqb (xor_all f n) 0 ≡ eqb (count (λ k. not (eqb (f k) 0)) n) 0
unfolding count xor_all
xor_all_few f zero h = refl
xor_all_few f (suc n) h = pick (eqb (f n) 0) refl (xor_all_few f n (omega arith))
  where
    some : ℕ → Bool
    some k = not (eqb (f k) 0)

    pick : (b : Bool) → eqb (f n) 0 ≡ b → eqb (xor_all f n) 0 ≡ eqb (count some n) 0
        → eqb (bit_xor (xor_all f n) (f n)) 0 ≡ eqb (count some n + bit (not (eqb (f n) 0))) 0
    pick true e ih = rw (e, eqb-true (f n) 0 e, xor_zero_r (xor_all f n), add-zero (count some n)) ih
    pick false e ih =
        let none : count some n ≡ 0 = omega (arith, ap (λ (b : Bool). bit (not b)) e) in
        let zeros : xor_all f n ≡ 0 = xor_all_zero f n (λ k l. eqb-true (f k) 0 (not-false (eqb (f k) 0) (count_none some n none k l))) in
        rw (e, none, zeros, e)

-- ---- empty masks

-- the mask of a test that no chip passes is empty
pub mask_zero : (p : ℕ → Bool) (n : ℕ) → ((k : ℕ) → k < n → p k ≡ false) → mask p n ≡ 0
unfolding mask
mask_zero p zero h = refl
mask_zero p (suc n) h = rw (h n (omega arith), mask_zero p n (λ k l. h k (omega arith)), zero-mul (2 ^ n))

-- a mask is empty exactly if no chip is counted
pub mask_count : (p : ℕ → Bool) (n : ℕ) → mask p n ≡ 0 → count p n ≡ 0
unfolding ones ones_in
mask_count p n e = sym (ones_mask p n) ∙ ap ones e

pub count_mask : (p : ℕ → Bool) (n : ℕ) → count p n ≡ 0 → mask p n ≡ 0
count_mask p n e = mask_zero p n (count_none p n e)

-- no chip is counted where none passes the test
pub count_zero : (p : ℕ → Bool) (n : ℕ) → ((k : ℕ) → k < n → p k ≡ false) → count p n ≡ 0
count_zero p n h = mask_count p n (mask_zero p n h)

-- where two that pass a test are one, no more than one chip is counted
pub count_few : (p : ℕ → Bool) (n : ℕ) → ((j k : ℕ) → j < n → k < n → p j ≡ true → p k ≡ true → j ≡ k) → count p n ≤ 1
unfolding count
count_few p zero h = zero-le
count_few p (suc n) h = by (p n) refl (count_few p n (λ j k hj hk. h j k (omega arith) (omega arith)))
  where
    by : (b : Bool) → p n ≡ b → count p n ≤ 1 → count p n + bit b ≤ 1
    by true e rest = omega (arith, count_zero p n (λ j l. other j l (p j) refl))
      where
        other : (j : ℕ) → j < n → (b : Bool) → p j ≡ b → b ≡ false
        other j l true f = absurd (omega (arith, l, h j n (omega arith) (omega arith) f e))
        other j l false f = refl
    by false e rest = omega (arith, rest)

-- where some chip is counted, there is one that passes the test
pub count_found : (p : ℕ → Bool) (n : ℕ) → 1 ≤ count p n → (k : ℕ) × ((k < n) × (p k ≡ true))
unfolding count
count_found p zero h = absurd (not-suc-le-zero h)
count_found p (suc n) h = by (p n) refl h (count_found p n)
  where
    by : (b : Bool) → p n ≡ b → 1 ≤ count p n + bit b → (1 ≤ count p n → (k : ℕ) × ((k < n) × (p k ≡ true)))
        → (k : ℕ) × ((k < suc n) × (p k ≡ true))
    by true e l below = (n, (omega arith, e))
    by false e l below = let f = below (omega (arith, l)) in (f.0, (omega (arith, f.1.0), f.1.1))

-- a list is its elements in order
pub of_chips_take : (l : List ℕ) (n : ℕ) → n ≤ length l → of_chips (λ k. get_or l k 0) n ≡ take n l
unfolding of_chips
of_chips_take l zero h = refl
of_chips_take l (suc n) h =
    ap (λ (t : List ℕ). t ++ (get_or l n 0 ∷ [])) (of_chips_take l n (omega arith)) ∙ sym (take-suc l n 0 (omega arith))

pub of_chips_list : (l : List ℕ) (n : ℕ) → length l ≡ n → of_chips (λ k. get_or l k 0) n ≡ l
of_chips_list l n e = of_chips_take l n (omega arith) ∙ take_all n l (omega arith)
