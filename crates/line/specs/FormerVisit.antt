-- What a visit was before document 02's Req 02 and before its Req 04. No call does either any more: they say what "before" means in
-- `former_answered` and `before_rows`. Steps 1 to 4, the passes over the line and the masks are those of `Visit`.
-- Definitions alone; what holds of them is in `FormerVisitLaws`.
use Rattle.std.specs.Prelude.{◌≡◌, ℕ, zero, suc, ◌<◌, cond, List, eqb}
use Rattle.cells.specs.Cells.{chips}
use Rattle.cells.specs.Chips.{xor_all, mask}
use Rattle.passes.specs.Passes.{pass_one, is_flagged, is_collision, flagged_chips, pass_three, beyond_chips}
use Rattle.line.specs.Blame.{Evidence}
use Rattle.line.specs.Visit.{own_word_by, own_word, own_passes, word_of, if_answered, with_words, bytes_after, report_of}
use Rattle.line.specs.declared.Report.{Report}
use Rattle.line.specs.declared.Outcome.{Outcome}
use Rattle.line.specs.declared.Outcome.TheVariants.{Answered, Unlocated, Uncorrectable}

-- the report of an outcome of before: the passes are those over the line itself, one to three
unfoldable pub report_with : Outcome → List ℕ → List ℕ → Report
report_with o m cws =
    record { outcome = o; passes = own_passes m cws; flagged = mask (is_flagged m cws) chips; collisions = mask (is_collision m cws) chips }

-- 6. Only an answered line is written back
unfoldable pub bytes_with : Outcome → (ℕ → ℕ) → List ℕ → List ℕ → List ℕ
bytes_with o words m cws = if_answered o (with_words words m cws) m

-- a visit of now, with e counted over the row, reports, finds and leaves what the outcome o and the words do by the two above
pub record AsWith (e : Evidence) (m cws : List ℕ) (o : Outcome) (words : ℕ → ℕ) : Type 0 where
  pub report : report_of e m cws ≡ report_with o m cws
  pub word : (k : ℕ) → k < chips → word_of e m cws k ≡ words k
  pub bytes : bytes_after e m cws ≡ bytes_with o words m cws

-- ---- document 01 with step 5 as it stands there, before Req 02 let chips tell their status

-- 3. None flagged: the nine words must xor to zero, else 20. 4. One: it is answered. 5. Two or more: pass three with Enable clear. The nine
-- words sent must xor to zero, else 21
unfoldable pub former_outcome_by : ℕ → List ℕ → List ℕ → Outcome
former_outcome_by zero m cws = cond (eqb (xor_all (pass_one m cws) chips) 0) Answered Unlocated
former_outcome_by (suc zero) m cws = Answered
former_outcome_by (suc (suc n)) m cws = cond (eqb (xor_all (pass_three m cws) chips) 0) Answered Uncorrectable

unfoldable pub former_word_by : ℕ → List ℕ → List ℕ → ℕ → ℕ
former_word_by zero m cws k = own_word_by 0 m cws k
former_word_by (suc zero) m cws k = own_word_by 1 m cws k
former_word_by (suc (suc n)) m cws k = pass_three m cws k

unfoldable pub former_outcome : List ℕ → List ℕ → Outcome
former_outcome m cws = former_outcome_by (flagged_chips m cws) m cws

unfoldable pub former_word : List ℕ → List ℕ → ℕ → ℕ
former_word m cws = former_word_by (flagged_chips m cws) m cws

-- a visit reports, finds and leaves what it did before Req 02
abbrev pub AsBefore : Evidence → List ℕ → List ℕ → Type 0
AsBefore e m cws = AsWith e m cws (former_outcome m cws) (former_word m cws)

-- ---- document 01 with Req 02, before Req 04 let a row be diagnosed

-- 5. After pass three, by how many flagged chips are beyond mending. None: the nine words sent must xor to zero, else 21. Just one: it is
-- answered. Two or more: 21
unfoldable pub third_before_rows : ℕ → List ℕ → List ℕ → Outcome
third_before_rows zero m cws = cond (eqb (xor_all (pass_three m cws) chips) 0) Answered Uncorrectable
third_before_rows (suc zero) m cws = Answered
third_before_rows (suc (suc n)) m cws = Uncorrectable

-- steps 3 and 4 are those of before Req 02
unfoldable pub outcome_before_rows_by : ℕ → List ℕ → List ℕ → Outcome
outcome_before_rows_by zero m cws = former_outcome_by 0 m cws
outcome_before_rows_by (suc zero) m cws = former_outcome_by 1 m cws
outcome_before_rows_by (suc (suc n)) m cws = third_before_rows (beyond_chips m cws) m cws

unfoldable pub outcome_before_rows : List ℕ → List ℕ → Outcome
outcome_before_rows m cws = outcome_before_rows_by (flagged_chips m cws) m cws

-- a visit reports, finds and leaves what it did before Req 04; the words of steps 3 to 5 by the line's own bytes are the same
abbrev pub AsBeforeRows : Evidence → List ℕ → List ℕ → Type 0
AsBeforeRows e m cws = AsWith e m cws (outcome_before_rows m cws) (own_word m cws)

-- its row is not diagnosed: none or one is flagged, or some flagged chip is beyond mending, or the words of pass three xor to zero
abbrev pub NotDiagnosed : List ℕ → List ℕ → Type 0
NotDiagnosed m cws = 1 < flagged_chips m cws → beyond_chips m cws ≡ 0 → xor_all (pass_three m cws) chips ≡ 0
