-- The closed form of a visit: the flagged chips are those that hold no codeword, and the line's bytes alone, with what was counted over the
-- other lines of its row, decide which of them are beyond mending or blamed, the outcome, the words and the bytes after it.
-- Definitions alone; `ClosedFormLaws` says that it is the visit.
use Rattle.std.specs.Prelude.{Bool, not, ◌&&◌, cond, List, ℕ, zero, suc, eqb, ltb}
use Rattle.cells.specs.Chips.{joined, xor_all, count}
use Rattle.cells.specs.Cells.{chip_at, codeword}
use Rattle.passes.specs.Passes.{xor_others, is_unsound, held_word, mended_at, beyond_at}
use Rattle.line.specs.Blame.{Evidence, reaches, other_reaches}
use Rattle.line.specs.Visit.{must_cancel, if_answered}
use Rattle.line.specs.declared.Outcome.{Outcome}
use Rattle.line.specs.declared.Outcome.TheVariants.{Answered, Unlocated, Uncorrectable}
use Rattle.line.specs.declared.Finding.{Finding}
use Rattle.line.specs.declared.Finding.TheVariants.{Decided, Undecided}

-- A name that ends in With goes by how many chips hold no codeword or are beyond mending, or by the finding; in For, by
-- the line and the evidence

-- what the line's own bytes tell after pass three, by how many chips are beyond mending
unfoldable pub third_finding_with : ℕ → List ℕ → Finding
third_finding_with zero m = must_cancel (mended_at m) (Undecided (xor_all (mended_at m) 9))
third_finding_with (suc zero) m = Decided Answered
third_finding_with (suc (suc n)) m = Decided Uncorrectable

-- chip k's word after pass three, by how many chips are beyond mending
unfoldable pub third_word_with : ℕ → List ℕ → ℕ → ℕ
third_word_with zero m k = mended_at m k
third_word_with (suc zero) m k = cond (beyond_at m k) (xor_others (mended_at m) k) (mended_at m k)
third_word_with (suc (suc n)) m k = mended_at m k

-- what the line's own bytes tell, by how many chips hold no codeword
unfoldable pub finding_with : ℕ → List ℕ → Finding
finding_with zero m = must_cancel (held_word m) (Decided Unlocated)
finding_with (suc zero) m = Decided Answered
finding_with (suc (suc n)) m = third_finding_with (count (beyond_at m) 9) m

-- chip k's word by them
unfoldable pub own_word_with : ℕ → List ℕ → ℕ → ℕ
own_word_with zero m k = held_word m k
own_word_with (suc zero) m k = cond (is_unsound m k) (xor_others (held_word m) k) (held_word m k)
own_word_with (suc (suc n)) m k = third_word_with (count (beyond_at m) 9) m k

unfoldable pub finding_for : List ℕ → Finding
finding_for m = finding_with (count (is_unsound m) 9) m

-- chip k is blamed
unfoldable pub blamed_for : Evidence → List ℕ → ℕ → Bool
blamed_for e m k = is_unsound m k && (reaches e k && (ltb 0 e.others && not (other_reaches e k)))

-- the outcome, by the finding
unfoldable pub outcome_with : Finding → Evidence → List ℕ → Outcome
outcome_with (Decided o) e m = o
outcome_with (Undecided x) e m = cond (eqb (count (blamed_for e m) 9) 0) Uncorrectable Answered

-- chip k's word
unfoldable pub word_with : Finding → Evidence → List ℕ → ℕ → ℕ
word_with (Decided o) e m k = own_word_with (count (is_unsound m) 9) m k
word_with (Undecided x) e m k = cond (blamed_for e m k) (xor_others (mended_at m) k) (mended_at m k)

-- the line with words written back in the chips that hold no codeword
unfoldable pub written_with : (ℕ → ℕ) → List ℕ → List ℕ
written_with words m = joined (λ k. cond (is_unsound m k) (codeword (words k)) (chip_at m k)) 9

unfoldable pub outcome_for : Evidence → List ℕ → Outcome
outcome_for e m = outcome_with (finding_for m) e m

unfoldable pub word_for : Evidence → List ℕ → ℕ → ℕ
word_for e m = word_with (finding_for m) e m

unfoldable pub bytes_for : Evidence → List ℕ → List ℕ
bytes_for e m = if_answered (outcome_for e m) (written_with (word_for e m) m) m
