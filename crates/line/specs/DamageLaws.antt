-- A line that was stored and then damaged: what stands in its chips, and what a fault adds.
-- Assumes nothing.
use Rattle.std.specs.Prelude.{◌≡◌, refl, Bool, true, false, cond, List, ℕ, ◌^◌, ◌<◌, eqb, length, replicate}
use Rattle.std.proofs.Common.{sym, ap, ap₂, ◌∙◌, subst, eqb-true}
use Rattle.std.specs.Int.Bits.{bit_xor, xor_self}
use Rattle.std.proofs.lemmas.Bool.{eqb-false}
use Rattle.code.specs.Code.{cell, check_of}
use Rattle.words.specs.Bytes.{Bytes, number_of, xor_bytes}
use Rattle.words.specs.ByteLaws.{number_xor, length_xor, xor_zeros, xor_bytes_assoc}
use Rattle.cells.specs.Chips.{xor_all}
use Rattle.cells.specs.ChipLaws.{last, joined_ext, xor_all_ext, xor_all_lt}
use Rattle.cells.specs.Cells.{cell_at, chip_at, codeword, with_chip, eight_at, line_word, stored}
use Rattle.cells.specs.CellLaws.{length_joined, chip_joined, same_chips, length_chip, cell_number, length_with_chip, chip_laid, chip_other, length_codeword, bytes_codeword, number_codeword, line_word_eight, line_word_parity, eight_lt}
use Rattle.line.specs.Damage.{damaged, Parity}

-- ---- what stands in the chips

module _ (w : ℕ → ℕ) (q : ℕ → List ℕ) (nine : (k : ℕ) → k < 9 → length (q k) ≡ 9) where
  nine_xor : (k : ℕ) → k < 9 → length (xor_bytes (codeword (w k)) (q k)) ≡ 9
  nine_xor k l = length_xor (codeword (w k)) (q k) (length_codeword (w k) ∙ sym (nine k l)) ∙ nine k l

  pub length_damaged : length (damaged w q) ≡ 81
  unfolding damaged
  length_damaged = length_joined (λ k. xor_bytes (codeword (w k)) (q k)) 9 9 nine_xor

  -- chip k holds the codeword of word k, xored with its pattern
  pub chip_damaged : (k : ℕ) → k < 9 → chip_at (damaged w q) k ≡ xor_bytes (codeword (w k)) (q k)
  unfolding damaged
  chip_damaged = chip_joined (λ k. xor_bytes (codeword (w k)) (q k)) nine_xor

  -- the same in numbers
  pub cell_damaged : (k : ℕ) → k < 9 → w k < 2 ^ 64 → Bytes (q k)
      → cell_at (damaged w q) k ≡ bit_xor (cell (w k) (check_of (w k))) (number_of (q k))
  cell_damaged k l h b =
      cell_number (damaged w q) k length_damaged l
      ∙ ap number_of (chip_damaged k l)
      ∙ number_xor (codeword (w k)) (q k) (length_codeword (w k) ∙ sym (nine k l)) (bytes_codeword (w k)) b
      ∙ ap (λ (x : ℕ). bit_xor x (number_of (q k))) (number_codeword (w k) h)

-- where no pattern is other than zero, the line is as it was stored
pub damaged_none : (w : ℕ → ℕ) → damaged w (λ k. replicate 9 0) ≡ stored w
unfolding damaged stored
damaged_none w = joined_ext _ _ 9 (λ k l. xor_zeros (codeword (w k)) 9 (length_codeword (w k)))

-- a pattern xored into one chip of a damaged line is xored with that chip's pattern
pub damaged_fault : (w : ℕ → ℕ) (q : ℕ → List ℕ) (c : ℕ) (r : List ℕ) → ((k : ℕ) → k < 9 → length (q k) ≡ 9) → c < 9 → length r ≡ 9
    → with_chip (damaged w q) c (xor_bytes (chip_at (damaged w q) c) r) ≡ damaged w (λ k. cond (eqb k c) (xor_bytes (q k) r) (q k))
damaged_fault w q c r nine l e =
    same_chips _ _ (length_with_chip (damaged w q) xored c ∙ size) (length_damaged w after after_nine)
    (λ k h. pick k h (eqb k c) refl ∙ sym (chip_damaged w after after_nine k h))
  where
    after : ℕ → List ℕ
    after k = cond (eqb k c) (xor_bytes (q k) r) (q k)

    xor_nine : (k : ℕ) → k < 9 → length (xor_bytes (q k) r) ≡ 9
    xor_nine k h = length_xor (q k) r (nine k h ∙ sym e) ∙ e

    after_nine : (k : ℕ) → k < 9 → length (after k) ≡ 9
    after_nine k h = cond_nine (eqb k c)
      where
        cond_nine : (b : Bool) → length (cond b (xor_bytes (q k) r) (q k)) ≡ 9
        cond_nine true = xor_nine k h
        cond_nine false = nine k h

    size : length (damaged w q) ≡ 81
    size = length_damaged w q nine

    xored : List ℕ
    xored = xor_bytes (chip_at (damaged w q) c) r

    xored_nine : length xored ≡ 9
    xored_nine = length_xor (chip_at (damaged w q) c) r (length_chip (damaged w q) c size l ∙ sym e) ∙ e

    xored_is : xored ≡ xor_bytes (codeword (w c)) (xor_bytes (q c) r)
    xored_is =
        ap (λ (x : List ℕ). xor_bytes x r) (chip_damaged w q nine c l)
        ∙ xor_bytes_assoc (codeword (w c)) (q c) r (length_codeword (w c) ∙ sym (nine c l)) (nine c l ∙ sym e)

    pick : (k : ℕ) → k < 9 → (b : Bool) → eqb k c ≡ b
        → chip_at (with_chip (damaged w q) c xored) k ≡ xor_bytes (codeword (w k)) (cond (eqb k c) (xor_bytes (q k) r) (q k))
    pick k h true t =
        let same : k ≡ c = eqb-true k c t in
        ap (chip_at (with_chip (damaged w q) c xored)) same
        ∙ chip_laid (damaged w q) xored c size xored_nine l
        ∙ xored_is
        ∙ ap (λ (j : ℕ). xor_bytes (codeword (w j)) (xor_bytes (q j) r)) (sym same)
        ∙ ap (λ (b : Bool). xor_bytes (codeword (w k)) (cond b (xor_bytes (q k) r) (q k))) (sym t)
    pick k h false t =
        chip_other (damaged w q) xored c size xored_nine l k h (eqb-false k c t)
        ∙ chip_damaged w q nine k h
        ∙ ap (λ (b : Bool). xor_bytes (codeword (w k)) (cond b (xor_bytes (q k) r) (q k))) (sym t)

-- the nine words of a line's 64 bytes
pub line_parity : (d : List ℕ) → length d ≡ 64 → Bytes d → Parity (line_word d)
unfolding xor_all
line_parity d size bytes = record {
  fit = λ k l.
      last l
      (λ (e : k ≡ 8). subst (λ (x : ℕ). x < 2 ^ 64) (sym (ap (line_word d) e ∙ line_word_parity d size)) (xor_all_lt (eight_at d) 64 8 (eight_lt d size bytes)))
      (λ (g : k < 8). subst (λ (x : ℕ). x < 2 ^ 64) (sym (line_word_eight d size k g)) (eight_lt d size bytes k g));
  sum = ap₂ bit_xor (xor_all_ext (line_word d) (eight_at d) 8 (line_word_eight d size)) (line_word_parity d size) ∙ xor_self (xor_all (eight_at d) 8);
}
