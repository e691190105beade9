-- Document 01, "A visit to a line", steps 3 to 6 for the line's bytes, over the passes of steps 1, 2 and 5 (`Passes` of crate `passes`);
-- document 02, Req 02 and Req 04, in step 5. m stands for the line's 81 bytes, cws for the nine catch-words, k for a chip's number, and e
-- for what is counted over the other lines of the row, which is looked at only where the line's own bytes leave its outcome undecided.
-- Definitions alone; what holds of them is in `OutcomeLaws`, `ClosedFormLaws`, `CatchWordLaws`, `AnsweredLaws`, `CleanLaws` and
-- `ToleratedLaws`.
use Rattle.std.specs.Prelude.{ℕ, zero, suc, ◌+◌, ◌*◌, cond, List, eqb, ltb}
use Rattle.cells.specs.Chips.{joined, xor_all, bit, count, mask}
use Rattle.cells.specs.Cells.{chips, chip_at, codeword}
use Rattle.line.specs.declared.Report.{Report}
use Rattle.line.specs.declared.Examined.{Examined}
use Rattle.line.specs.declared.Outcome.{Outcome}
use Rattle.line.specs.declared.Outcome.TheVariants.{Answered, Unlocated, Uncorrectable}
use Rattle.line.specs.declared.Finding.{Finding}
use Rattle.line.specs.declared.Finding.TheVariants.{Decided, Undecided}
use Rattle.passes.specs.Passes.{pass_one, is_candidate, is_flagged, is_collision, flagged_chips, xor_others, pass_three, is_flagged_beyond, beyond_chips}
use Rattle.line.specs.Blame.{Evidence, is_blamed, blamed_chips}

-- the refusal's number in document 01, 0 for none
unfoldable pub refusal_of : Outcome → ℕ
refusal_of Answered = 0
refusal_of Unlocated = 20
refusal_of Uncorrectable = 21

-- ---- what the line's own bytes tell

-- the nine words must xor to zero: then the line is answered, else the given finding stands
unfoldable pub must_cancel : (ℕ → ℕ) → Finding → Finding
must_cancel words otherwise = cond (eqb (xor_all words chips) 0) (Decided Answered) otherwise

-- after pass three, by how many flagged chips are beyond mending. None: the nine words sent must xor to zero, else the row is diagnosed before a
-- 21. Just one: it is answered. Two or more: 21. What the words xor to is kept for the code, which rebuilds a blamed chip's word by it; no
-- document has it.
unfoldable pub third_finding : ℕ → List ℕ → List ℕ → Finding
third_finding zero m cws = must_cancel (pass_three m cws) (Undecided (xor_all (pass_three m cws) chips))
third_finding (suc zero) m cws = Decided Answered
third_finding (suc (suc n)) m cws = Decided Uncorrectable

-- chip k's word after pass three: if just one flagged chip is beyond mending, its word is the xor of the other eight
unfoldable pub third_word : ℕ → List ℕ → List ℕ → ℕ → ℕ
third_word zero m cws k = pass_three m cws k
third_word (suc zero) m cws k = cond (is_flagged_beyond m cws k) (xor_others (pass_three m cws) k) (pass_three m cws k)
third_word (suc (suc n)) m cws k = pass_three m cws k

-- by how many chips are flagged. 3. None: the nine words must xor to zero, else 20. 4. One: it is answered. 5. Two or more: by pass three.
unfoldable pub finding_by : ℕ → List ℕ → List ℕ → Finding
finding_by zero m cws = must_cancel (pass_one m cws) (Decided Unlocated)
finding_by (suc zero) m cws = Decided Answered
finding_by (suc (suc n)) m cws = third_finding (beyond_chips m cws) m cws

-- chip k's word by steps 3 to 5
unfoldable pub own_word_by : ℕ → List ℕ → List ℕ → ℕ → ℕ
own_word_by zero m cws k = pass_one m cws k
own_word_by (suc zero) m cws k = cond (is_flagged m cws k) (xor_others (pass_one m cws) k) (pass_one m cws k)
own_word_by (suc (suc n)) m cws k = third_word (beyond_chips m cws) m cws k

unfoldable pub finding_of : List ℕ → List ℕ → Finding
finding_of m cws = finding_by (flagged_chips m cws) m cws

unfoldable pub own_word : List ℕ → List ℕ → ℕ → ℕ
own_word m cws = own_word_by (flagged_chips m cws) m cws

-- the passes made: pass two if there are candidates, pass three if two or more chips are flagged
unfoldable pub own_passes : List ℕ → List ℕ → ℕ
own_passes m cws = 1 + bit (ltb 0 (count (is_candidate m cws) chips)) + bit (ltb 1 (flagged_chips m cws))

-- all of it
unfoldable pub examined_of : List ℕ → List ℕ → Examined
examined_of m cws =
    record {
      finding = finding_of m cws;
      passes = own_passes m cws;
      flagged = mask (is_flagged m cws) chips;
      collisions = mask (is_collision m cws) chips;
    }

-- ---- how the visit ends: by the line's own bytes, or by the diagnosis of its row

-- nobody blamed means 21
unfoldable pub outcome_by : Finding → Evidence → List ℕ → List ℕ → Outcome
outcome_by (Decided o) e m cws = o
outcome_by (Undecided x) e m cws = cond (eqb (blamed_chips e m cws) 0) Uncorrectable Answered

-- the blamed chip's word is the xor of the other eight words of pass three
unfoldable pub word_by : Finding → Evidence → List ℕ → List ℕ → ℕ → ℕ
word_by (Decided o) e m cws k = own_word m cws k
word_by (Undecided x) e m cws k = cond (is_blamed e m cws k) (xor_others (pass_three m cws) k) (pass_three m cws k)

-- a diagnosis makes two passes for each other line
unfoldable pub row_passes : Finding → Evidence → ℕ
row_passes (Decided o) e = 0
row_passes (Undecided x) e = 2 * e.others

unfoldable pub outcome_of : Evidence → List ℕ → List ℕ → Outcome
outcome_of e m cws = outcome_by (finding_of m cws) e m cws

unfoldable pub word_of : Evidence → List ℕ → List ℕ → ℕ → ℕ
word_of e m cws = word_by (finding_of m cws) e m cws

-- the first where the line is answered, the second where it is refused
abbrev pub if_answered : {A : Type 0} → Outcome → A → A → A
if_answered Answered a b = a
if_answered Unlocated a b = b
if_answered Uncorrectable a b = b

-- 6. Only an answered line is written back: each flagged chip gets its word and check byte. The rest of step 6 is the record's: the total of
-- the task and the colliding chips' catch-words and registers change by what is reported here (`after_visit` of crate `record`).
unfoldable pub with_words : (ℕ → ℕ) → List ℕ → List ℕ → List ℕ
with_words words m cws = joined (λ k. cond (is_flagged m cws k) (codeword (words k)) (chip_at m k)) chips

unfoldable pub written_back : Evidence → List ℕ → List ℕ → List ℕ
written_back e m cws = with_words (word_of e m cws) m cws

-- the line's bytes after the visit
unfoldable pub bytes_after : Evidence → List ℕ → List ℕ → List ℕ
bytes_after e m cws = if_answered (outcome_of e m cws) (written_back e m cws) m

-- what the visit reports: the passes grow by those of the diagnosis, also where it ends in 21
unfoldable pub report_of : Evidence → List ℕ → List ℕ → Report
report_of e m cws =
    record {
      outcome = outcome_of e m cws;
      passes = own_passes m cws + row_passes (finding_of m cws) e;
      flagged = mask (is_flagged m cws) chips;
      collisions = mask (is_collision m cws) chips;
    }
