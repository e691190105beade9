-- Laws of a line's nine syndromes. m is the line's bytes.
-- Assumes nothing.
use Rattle.std.proofs.Common.{◌≡◌, refl, Bool, true, false, not, ◌&&◌, cond, List, ℕ, ◌+◌, ◌*◌, ◌/◌, ◌%◌, ◌^◌, ◌<◌, eqb, sym, ap, ◌∙◌, arith, eqb-true}
use Rattle.std.proofs.Math.Nat.{zero-div}
use Rattle.std.specs.Int.Bits.{bit_xor}
use Rattle.std.proofs.lemmas.Bool.{eqb-false}
use Rattle.code.specs.Code.{is_codeword, check_of}
use Rattle.code.specs.TestLaws.{and_first, and_second}
use Rattle.code.proofs.CodeLaws.{syndrome_of_lem, syndrome_lt, check_lt}
use Rattle.lanes.specs.Lanes.{lanes}
use Rattle.lanes.proofs.LaneLaws.{lanes_both}
use Rattle.cells.specs.Chips.{mask}
use Rattle.cells.specs.ChipLaws.{mask_ext, mask_zero}
use Rattle.cells.specs.Cells.{word_at, check_at, cell_at}
use Rattle.cells.specs.Checks.{every_other, in_checks}
use Rattle.cells.specs.CheckLaws.{checks_at}
use Rattle.words.specs.Bytes.{Bytes}
use Rattle.passes.specs.Passes.{is_unsound}
use Rattle.passes.proofs.ScanLaws.{check_fits}
use Rattle.passes.specs.declared.syndromes.Syndromes.{Syndromes}
use Rattle.passes.specs.Syndromes.{chip_syndrome, syndromes_of, syndrome_in, are_zero}

-- ---- how they are made

-- the check bytes that words ask for, xored with those held
pub made_other : (m : List ℕ) → Bytes m → (k : ℕ)
    → bit_xor (every_other (λ j. check_of (word_at m j)) k) (every_other (check_at m) k) ≡ every_other (chip_syndrome m) k
unfolding every_other cell_at
made_other m bytes k =
    let asked : ℕ → ℕ = λ j. check_of (word_at m j) in
    let a : (j : ℕ) → asked j < 2 ^ 16 = λ j. omega (arith, check_lt (word_at m j)) in
    let h : (j : ℕ) → check_at m j < 2 ^ 16 = λ j. omega (arith, check_fits m bytes j) in
    let s : (j : ℕ) → bit_xor (asked j) (check_at m j) ≡ chip_syndrome m j = λ j. sym (syndrome_of_lem (word_at m j) (check_at m j) (check_fits m bytes j)) in
    lanes_both (asked k) (asked (k + 2)) (asked (k + 4)) (asked (k + 6)) (check_at m k) (check_at m (k + 2)) (check_at m (k + 4)) (check_at m (k + 6))
    (a k) (a (k + 2)) (a (k + 4)) (h k) (h (k + 2)) (h (k + 4))
    ∙ λ i. lanes (s k i) (s (k + 2) i) (s (k + 4) i) (s (k + 6) i)

-- ---- what they tell

-- chip k's syndrome
pub syndrome_in_is : (m : List ℕ) (k : ℕ) → k < 9 → syndrome_in (syndromes_of m) k ≡ chip_syndrome m k
unfolding syndrome_in syndromes_of
syndrome_in_is m k h = pick (eqb k 8) refl
  where
    pick : (b : Bool) → eqb k 8 ≡ b → syndrome_in (syndromes_of m) k ≡ chip_syndrome m k
    pick true e = rw e (ap (chip_syndrome m) (sym (eqb-true k 8 e)))
    pick false e =
        let ne : k ≡ 8 → ⊥ = eqb-false k 8 e in
        rw e (checks_at (chip_syndrome m) (λ j. syndrome_lt (cell_at m j)) k (omega arith))

-- the chips whose syndrome is not zero are those that hold no codeword
pub unsound_mask : (m : List ℕ) → mask (λ k. not (eqb (syndrome_in (syndromes_of m) k) 0)) 9 ≡ mask (is_unsound m) 9
unfolding is_unsound is_codeword
unsound_mask m = mask_ext _ _ 9 (λ k l. ap (λ (s : ℕ). not (eqb s 0)) (syndrome_in_is m k l))

-- no chip's syndrome is another than zero where all nine are
pub zero_mask : (s : Syndromes) → are_zero s ≡ true → mask (λ k. not (eqb (syndrome_in s k) 0)) 9 ≡ 0
unfolding are_zero syndrome_in in_checks
zero_mask s z = mask_zero _ 9 (λ k l. ap (λ (n : ℕ). not (eqb n 0)) (each k))
  where
    rest : (eqb s.eight.odd 0 && eqb s.last 0) ≡ true
    rest = and_second (eqb s.eight.even 0) (eqb s.eight.odd 0 && eqb s.last 0) z

    even : s.eight.even ≡ 0
    even = eqb-true s.eight.even 0 (and_first (eqb s.eight.even 0) (eqb s.eight.odd 0 && eqb s.last 0) z)

    odd : s.eight.odd ≡ 0
    odd = eqb-true s.eight.odd 0 (and_first (eqb s.eight.odd 0) (eqb s.last 0) rest)

    last : s.last ≡ 0
    last = eqb-true s.last 0 (and_second (eqb s.eight.odd 0) (eqb s.last 0) rest)

    none : (i : ℕ) (a b : Bool) → cond a 0 (cond b 0 0 / i % 256) ≡ 0
    none i true b = refl
    none i false true = ap (λ (n : ℕ). n % 256) (zero-div i)
    none i false false = ap (λ (n : ℕ). n % 256) (zero-div i)

    each : (k : ℕ) → syndrome_in s k ≡ 0
    each k = rw (even, odd, last) (none (2 ^ (16 * (k / 2))) (eqb k 8) (eqb (k % 2) 0))
