-- What is read of a line's words does not depend on what is added to its check bytes: here it is said of the bytes without it.
-- Assumes nothing.
use Rattle.std.proofs.Common.{◌≡◌, sym, ap, List, ℕ, ◌+◌, ◌<◌, eqb, length}
use Rattle.code.specs.Code.{check_of}
use Rattle.cells.specs.Chips.{xor_all, count, mask}
use Rattle.cells.specs.ChipLaws.{xor_all_ext, count_ext, mask_ext}
use Rattle.cells.specs.Cells.{word_at, xor_checks}
use Rattle.cells.specs.Checks.{every_other}
use Rattle.cells.specs.CheckLaws.{other_ext}
use Rattle.cells.specs.AddedLaws.{word_checks}
use Rattle.passes.specs.Passes.{catch_word}
use Rattle.passes.specs.Scan.{equals_catch_word}

module _ (a : ℕ) (m : List ℕ) (e : length m ≡ 81) where
  word_same : (k : ℕ) → k < 9 → word_at m k ≡ word_at (xor_checks a m) k
  word_same k l = sym (word_checks a m e k l)

  -- the xor of the words
  pub parity_same : xor_all (word_at m) 9 ≡ xor_all (word_at (xor_checks a m)) 9
  parity_same = xor_all_ext _ _ 9 word_same

  -- the check bytes that words ask for, every other one from chip k on
  pub asked_same : (k : ℕ) → k + 6 < 9 → every_other (λ j. check_of (word_at m j)) k ≡ every_other (λ j. check_of (word_at (xor_checks a m) j)) k
  asked_same = other_ext _ _ (λ j l. ap check_of (word_same j l))

  module _ (cws : List ℕ) where
    -- the chips whose word is their catch-word
    equal_same : (k : ℕ) → k < 9 → equals_catch_word m cws k ≡ equals_catch_word (xor_checks a m) cws k
    equal_same k l = ap (λ (w : ℕ). eqb w (catch_word cws k)) (word_same k l)

    pub equal_mask_same : mask (equals_catch_word m cws) 9 ≡ mask (equals_catch_word (xor_checks a m) cws) 9
    equal_mask_same = mask_ext _ _ 9 equal_same

    pub equal_count_same : count (equals_catch_word m cws) 9 ≡ count (equals_catch_word (xor_checks a m) cws) 9
    equal_count_same = count_ext _ _ 9 equal_same
