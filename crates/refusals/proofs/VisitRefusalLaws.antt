-- Refusals 20 and 21: the number of a visit's outcome comes on their conditions.
-- Assumes nothing.
use Rattle.std.specs.Prelude.{◌≡◌, Bool, not, ◌&&◌, ◌||◌, cond, List, [], ◌∷◌, eqb, ltb}
use Rattle.std.proofs.Math.Path.{refl}
use Rattle.std.proofs.Math.Bool.{true, false}
use Prim.Native.Nat.{ℕ, zero, suc}
use Rattle.std.proofs.Common.{arith}
use borrow.Author.Tests.{ne_eqb, lt-ltb}
use Rattle.cells.specs.Chips.{xor_all}
use Rattle.passes.specs.Passes.{pass_one, pass_three, flagged_chips, beyond_chips}
use Rattle.line.specs.Blame.{Evidence, blamed_chips}
use Rattle.line.specs.Visit.{refusal_of, must_cancel, third_finding, finding_by, finding_of, outcome_by, outcome_of, report_of}
use Rattle.line.specs.declared.Outcome.TheVariants.{Answered, Unlocated, Uncorrectable}
use Rattle.line.specs.declared.Finding.TheVariants.{Decided, Undecided}
use Rattle.memory.specs.Lines.{line_at}
use Rattle.record.specs.declared.Rank.{Rank}
use Rattle.rows.specs.Rows.{evidence_of, report_in}
use Rattle.refusals.specs.Refusals.{refused_if, first_of, unlocated_by, unlocated, refused20, uncorrectable_by, uncorrectable, refused21}

module _ (e : Evidence) (x cws : List ℕ) where
  -- words that must xor to zero, p telling whether they do
  cancel_20 : (p : Bool)
      → refusal_of (outcome_by (cond p (Decided Answered) (Decided Unlocated)) e x cws) ≡ first_of (refused_if (not p) 20 ∷ 0 ∷ [])
  unfolding refusal_of outcome_by
  cancel_20 true = refl
  cancel_20 false = refl

  -- and q whether nobody is blamed
  blamed_21 : (q : Bool) → refusal_of (cond q Uncorrectable Answered) ≡ first_of (0 ∷ refused_if q 21 ∷ [])
  unfolding refusal_of
  blamed_21 true = refl
  blamed_21 false = refl

  cancel_21 : (p : Bool) (n : ℕ)
      → refusal_of (outcome_by (cond p (Decided Answered) (Undecided n)) e x cws)
      ≡ first_of (0 ∷ refused_if (not p && eqb (blamed_chips e x cws) 0) 21 ∷ [])
  unfolding refusal_of outcome_by
  cancel_21 true n = refl
  cancel_21 false n = blamed_21 (eqb (blamed_chips e x cws) 0)

  -- after pass three, by how many flagged chips are beyond mending
  third_refusal : (n : ℕ)
      → refusal_of (outcome_by (third_finding n x cws) e x cws)
      ≡ first_of (
      0
      ∷ refused_if (ltb 1 n || (eqb n 0 && (not (eqb (xor_all (pass_three x cws) 9) 0) && eqb (blamed_chips e x cws) 0))) 21
      ∷ []
      )
  unfolding third_finding must_cancel refusal_of outcome_by
  third_refusal zero = cancel_21 (eqb (xor_all (pass_three x cws) 9) 0) (xor_all (pass_three x cws) 9)
  third_refusal (suc zero) = refl
  third_refusal (suc (suc n)) = rw (lt-ltb 1 (suc (suc n)) (omega arith))

  -- by how many are flagged
  by_flagged : (n : ℕ)
      → refusal_of (outcome_by (finding_by n x cws) e x cws)
      ≡ first_of (
      refused_if (eqb n 0 && not (eqb (xor_all (pass_one x cws) 9) 0)) 20
      ∷ refused_if
      (ltb 1 n
      && (ltb 1 (beyond_chips x cws)
      || (eqb (beyond_chips x cws) 0 && (not (eqb (xor_all (pass_three x cws) 9) 0) && eqb (blamed_chips e x cws) 0)))) 21
      ∷ []
      )
  unfolding finding_by must_cancel refusal_of outcome_by
  by_flagged zero = cancel_20 (eqb (xor_all (pass_one x cws) 9) 0)
  by_flagged (suc zero) = refl
  by_flagged (suc (suc n)) =
      rw (ne_eqb (suc (suc n)) 0 (λ z. omega arith), lt-ltb 1 (suc (suc n)) (omega arith)) (third_refusal (beyond_chips x cws))

-- the number of the outcome is 20 or 21 on its condition, else 0
pub visit_refusal : (r : Rank) (m : List ℕ) (l : ℕ)
    → refusal_of (report_in r.lines m l r.catch_words).outcome ≡ first_of (refused20 r m l ∷ refused21 r m l ∷ [])
unfolding report_in report_of outcome_of finding_of unlocated unlocated_by uncorrectable uncorrectable_by
visit_refusal r m l =
    by_flagged (evidence_of r.lines m l r.catch_words) (line_at m l) r.catch_words (flagged_chips (line_at m l) r.catch_words)
