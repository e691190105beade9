-- Laws of masks that are put together, and of a mask's lowest chip.
-- Assumes nothing.
use Rattle.std.specs.Prelude.{◌≡◌, refl, Bool, true, false, not, ◌&&◌, ◌||◌, ℕ, zero, suc, ◌+◌, ◌-◌, ◌*◌, ◌/◌, ◌%◌, ◌^◌, ◌<◌, T, eqb, ltb}
use Rattle.std.proofs.Common.{sym, ap, ap₂, ◌∙◌, zero-mul, add-zero, not-suc-le-zero, arith, lit<, pow-suc, ltb→lt, eq-eqb, ne_eqb}
use Rattle.std.specs.Int.Bits.{bit_and, bit_or, and_self}
use Rattle.std.proofs.lemmas.Nat.{and_block, or_block}
use Rattle.std.specs.Int.Count.{ones, ones_in, count_trailing_zeros, under}
use Rattle.code.specs.TestLaws.{each, each_at, each_below}
use Rattle.cells.specs.Chips.{bit, mask, in_mask}
use Rattle.cells.specs.ChipLaws.{last, mask_lt, in_mask_lem, mask_zero}

-- ---- masks put together

or_bit : (a b : Bool) → bit_or (bit a) (bit b) ≡ bit (a || b)
or_bit true true = refl
or_bit true false = refl
or_bit false true = refl
or_bit false false = refl

-- the chips of either mask
pub or_masks : (p q : ℕ → Bool) (n : ℕ) → bit_or (mask p n) (mask q n) ≡ mask (λ k. p k || q k) n
unfolding mask
or_masks p q zero = refl
or_masks p q (suc n) =
    or_block n (bit (p n)) (bit (q n)) (mask p n) (mask q n) (mask_lt p n) (mask_lt q n)
    ∙ ap₂ (λ (a b : ℕ). a * 2 ^ n + b) (or_bit (p n) (q n)) (or_masks p q n)

-- chip k alone, where a test holds
pub mask_one : (b : Bool) (n k : ℕ) → k < n → bit b * 2 ^ k ≡ mask (λ i. eqb i k && b) n
unfolding mask
mask_one b zero k h = absurd (not-suc-le-zero h)
mask_one b (suc n) k h =
    last h
    (λ (e : k ≡ n).
    ap (λ (i : ℕ). bit b * 2 ^ i) e ∙ sym (add-zero (bit b * 2 ^ n))
    ∙ ap₂ (λ (c : Bool) (m : ℕ). bit (c && b) * 2 ^ n + m) (sym (eq-eqb n k (sym e)))
    (sym (mask_zero (λ i. eqb i k && b) n (λ i l. ap (λ (c : Bool). c && b) (ne_eqb i k (λ q. omega arith))))))
    (λ (l : k < n).
    let none : bit (eqb n k && b) ≡ 0 = ap (λ (c : Bool). bit (c && b)) (ne_eqb n k (λ q. omega arith)) in
    let m : ℕ = mask (λ i. eqb i k && b) n in
    mask_one b n k l ∙ omega (arith, zero-mul (2 ^ n)) ∙ ap (λ (x : ℕ). x * 2 ^ n + m) (sym none))

-- a chip put in a mask where a test holds
pub mask_with : (p : ℕ → Bool) (b : Bool) (k : ℕ) → k < 9 → bit_or (mask p 9) (bit b * 2 ^ k) ≡ mask (λ i. p i || (eqb i k && b)) 9
mask_with p b k h = ap (bit_or (mask p 9)) (mask_one b 9 k h) ∙ or_masks p (λ i. eqb i k && b) 9

-- no bit is set in the empty mask, and no chip is in it
pub no_ones : ones 0 ≡ 0
unfolding ones ones_in
no_ones = refl

pub no_member : (k : ℕ) → k < 9 → in_mask 0 k ≡ false
no_member k l = ap (λ (m : ℕ). in_mask m k) (sym (mask_zero (λ i. false) 9 (λ i h. refl))) ∙ in_mask_lem (λ i. false) 9 k l

-- ---- a mask's lowest chip

-- k is a chip of mask m, and t is m without it
pub record TakenOff (m k t : ℕ) : Type 0 where
  pub below : k < 9
  pub member : in_mask m k ≡ true
  pub less : t < m
  pub rest : (i : ℕ) → i < 9 → in_mask t i ≡ (in_mask m i && not (eqb i k))

abbrev agree : Bool → Bool → Bool
agree true b = b
agree false b = not b

agree_is : (a b : Bool) → T (agree a b) → a ≡ b
agree_is true true t = refl
agree_is true false t = absurd t
agree_is false true t = absurd t
agree_is false false t = refl

abbrev lowest_of : ℕ → ℕ
lowest_of n = count_trailing_zeros 32 (suc n)

-- each of the 511 masks that are not empty
below_test : T (each (λ n. ltb (lowest_of n) 9) 511)
unfolding count_trailing_zeros
below_test = tt

member_test : T (each (λ n. agree (in_mask (suc n) (lowest_of n)) true) 511)
unfolding count_trailing_zeros in_mask
member_test = tt

without_test : T (each (λ n. each (λ i. agree (in_mask (suc n - 2 ^ lowest_of n) i) (in_mask (suc n) i && not (eqb i (lowest_of n)))) 9) 511)
unfolding count_trailing_zeros in_mask
without_test = tt

less_test : T (each (λ n. ltb (suc n - 2 ^ lowest_of n) (suc n)) 511)
unfolding count_trailing_zeros
less_test = tt

-- as the code takes it off a number of k bits
pub off_lowest : (k m : ℕ) → 0 < m → m < 2 ^ k → bit_and m (m - 1) ≡ m - 2 ^ count_trailing_zeros k m
unfolding count_trailing_zeros
off_lowest zero m h l = absurd (omega arith)
off_lowest (suc k) m h l = by (m % 2) refl (off_lowest k (m / 2))
  where
    by : (d : ℕ) → m % 2 ≡ d
        → (0 < m / 2 → m / 2 < 2 ^ k → bit_and (m / 2) (m / 2 - 1) ≡ m / 2 - 2 ^ count_trailing_zeros k (m / 2))
        → bit_and m (m - 1) ≡ m - 2 ^ under d (count_trailing_zeros k (m / 2))
    by zero even half =
        let rest = half (omega arith) (omega (arith, pow-suc 2 k)) in
        let t : ℕ = count_trailing_zeros k (m / 2) in
        let whole : m ≡ m / 2 * 2 ^ 1 + 0 = omega arith in
        let less : m - 1 ≡ (m / 2 - 1) * 2 ^ 1 + 1 = omega arith in
        ap₂ bit_and whole less
        ∙ and_block 1 (m / 2) (m / 2 - 1) 0 1 (lit< tt) (lit< tt)
        ∙ omega (arith, rest, pow-suc 2 t)
    by (suc d) odd half =
        let whole : m ≡ m / 2 * 2 ^ 1 + 1 = omega arith in
        let less : m - 1 ≡ m / 2 * 2 ^ 1 + 0 = omega arith in
        ap₂ bit_and whole less
        ∙ and_block 1 (m / 2) (m / 2) 1 0 (lit< tt) (lit< tt)
        ∙ omega (arith, and_self (m / 2))

pub without_lowest : (m : ℕ) → 0 < m → m < 2 ^ 9 → bit_and m (m - 1) ≡ m - 2 ^ count_trailing_zeros 32 m
without_lowest m h l = off_lowest 32 m h (omega arith)

pub lowest_chip : (m : ℕ) → 0 < m → m < 2 ^ 9 → TakenOff m (count_trailing_zeros 32 m) (m - 2 ^ count_trailing_zeros 32 m)
lowest_chip zero h l = absurd (not-suc-le-zero h)
lowest_chip (suc n) h l =
    let i : n < 511 = omega arith in
    record {
      below = each_below lowest_of 9 511 below_test n i;
      member = agree_is _ true (each_at (λ n. agree (in_mask (suc n) (lowest_of n)) true) 511 member_test n i);
      less = ltb→lt _ _ (each_at (λ n. ltb (suc n - 2 ^ lowest_of n) (suc n)) 511 less_test n i);
      rest =
          λ j k.
          agree_is _ _ (each_at (λ j. agree (in_mask (suc n - 2 ^ lowest_of n) j) (in_mask (suc n) j && not (eqb j (lowest_of n)))) 9
          (each_at (λ n. each (λ j. agree (in_mask (suc n - 2 ^ lowest_of n) j) (in_mask (suc n) j && not (eqb j (lowest_of n)))) 9) 511 without_test n i) j k);
    }
