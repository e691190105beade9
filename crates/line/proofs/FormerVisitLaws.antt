-- A visit whose row is not diagnosed is what it was before Req 04, whatever is counted over the row; so is each that answered before. One that
-- answered by document 01's step 5 answers the same by document 02's, where no more than one flagged chip is beyond mending; where two are, it
-- may have answered before and is refused 21 now.
-- Assumes nothing.
use Rattle.std.specs.Prelude.{◌≡◌, Bool, eqb}
use Rattle.std.proofs.Math.Path.{refl, ap}
use Rattle.std.proofs.Common.{sym, ◌∙◌, true≢false, arith, eqb-true, eq-eqb}
use Rattle.std.proofs.Math.Bool.{true, false, cond}
use mathlib.Core.List.{List}
use Prim.Native.Nat.{ℕ, zero, suc, ◌+◌, ◌≤◌, ◌<◌}
use Rattle.std.proofs.Math.Nat.{add-zero}
use Rattle.cells.specs.Chips.{xor_all, mask}
use Rattle.cells.specs.ChipLaws.{joined_ext}
use Rattle.cells.specs.Cells.{chip_at, codeword}
use Rattle.passes.specs.Passes.{pass_one, is_flagged, is_collision, flagged_chips, xor_others, pass_three, is_flagged_beyond, beyond_chips}
use Rattle.passes.proofs.PassLaws.{others_cancel}
use Rattle.line.specs.Blame.{Evidence}
use Rattle.line.specs.Visit.{must_cancel, third_finding, third_word, finding_by, own_word_by, finding_of, own_word, outcome_by, word_by, outcome_of, word_of, if_answered, with_words, written_back, bytes_after, own_passes, row_passes, report_of}
use Rattle.line.specs.FormerVisit.{report_with, bytes_with, AsWith, former_outcome_by, former_word_by, former_outcome, former_word, AsBefore, third_before_rows, outcome_before_rows_by, outcome_before_rows, AsBeforeRows, NotDiagnosed}
use Rattle.line.specs.FindingLaws.{UndecidedCase, undecided_told}
use Rattle.line.specs.declared.Outcome.{Outcome}
use Rattle.line.specs.declared.Outcome.TheVariants.{Answered, Unlocated, Uncorrectable}
use Rattle.line.specs.declared.Finding.{Finding}
use Rattle.line.specs.declared.Finding.TheVariants.{Decided, Undecided}

-- a refusal is no answer
refused : {A : Type 0} → Uncorrectable ≡ Answered → A
refused e = absurd (true≢false (sym (ap (λ (o : Outcome). if_answered o true false) e)))

-- ---- a line that its own bytes decide

module _ (e : Evidence) (m cws : List ℕ) where
  decided : (f : Finding) (o : Outcome) → f ≡ Decided o → (outcome_by f e m cws ≡ o) × ((k : ℕ) → word_by f e m cws k ≡ own_word m cws k) × (row_passes f e ≡ 0)
  unfolding outcome_by word_by row_passes
  decided f o d =
      (ap (λ (g : Finding). outcome_by g e m cws) d, (λ k. ap (λ (g : Finding). word_by g e m cws k) d), ap (λ (g : Finding). row_passes g e) d)

  -- it ends by the same outcome, with words that are those of before
  as_with : (o : Outcome) (words : ℕ → ℕ) → finding_of m cws ≡ Decided o → ((k : ℕ) → k < 9 → own_word m cws k ≡ words k) → AsWith e m cws o words
  unfolding report_of outcome_of word_of bytes_after written_back with_words report_with bytes_with
  as_with o words d same =
      let now = decided (finding_of m cws) o d in
      record {
        report =
            λ i. record {
              outcome = now.0 i;
              passes = (ap (λ (n : ℕ). own_passes m cws + n) now.2 ∙ add-zero (own_passes m cws)) i;
              flagged = mask (is_flagged m cws) 9;
              collisions = mask (is_collision m cws) 9;
            };
        word = λ k l. now.1 k ∙ same k l;
        bytes =
            ap (λ (p : Outcome). if_answered p (with_words (word_of e m cws) m cws) m) now.0
            ∙ ap (λ (bytes : List ℕ). if_answered o bytes m)
            (joined_ext _ _ 9 (λ k l. ap (λ (w : ℕ). cond (is_flagged m cws k) (codeword w) (chip_at m k)) (now.1 k ∙ same k l)));
      }

  -- ---- before Req 04

  -- a finding of now, and the outcome of before: an undecided one was refused with 21
  abbrev undiagnosed : Finding → Outcome
  undiagnosed (Decided o) = o
  undiagnosed (Undecided x) = Uncorrectable

  cancelled : (f : ℕ → ℕ) (g : Finding) → undiagnosed (must_cancel f g) ≡ cond (eqb (xor_all f 9) 0) Answered (undiagnosed g)
  unfolding must_cancel
  cancelled f g = by (eqb (xor_all f 9) 0)
    where
      by : (b : Bool) → undiagnosed (cond b (Decided Answered) g) ≡ cond b Answered (undiagnosed g)
      by true = refl
      by false = refl

  undiagnosed_is : undiagnosed (finding_of m cws) ≡ outcome_before_rows m cws
  unfolding finding_of finding_by third_finding outcome_before_rows outcome_before_rows_by third_before_rows former_outcome_by
  undiagnosed_is = by (flagged_chips m cws)
    where
      third : (n : ℕ) → undiagnosed (third_finding n m cws) ≡ third_before_rows n m cws
      third zero = cancelled (pass_three m cws) (Undecided (xor_all (pass_three m cws) 9))
      third (suc zero) = refl
      third (suc (suc n)) = refl

      by : (n : ℕ) → undiagnosed (finding_by n m cws) ≡ outcome_before_rows_by n m cws
      by zero = cancelled (pass_one m cws) (Decided Unlocated)
      by (suc zero) = refl
      by (suc (suc n)) = third (beyond_chips m cws)

  -- without a diagnosis all is as before
  pub not_diagnosed_before : NotDiagnosed m cws → AsBeforeRows e m cws
  not_diagnosed_before h = by (finding_of m cws) refl undiagnosed_is
    where
      by : (f : Finding) → finding_of m cws ≡ f → undiagnosed f ≡ outcome_before_rows m cws → AsBeforeRows e m cws
      by (Decided o) d same = as_with (outcome_before_rows m cws) (own_word m cws) (d ∙ ap Decided same) (λ k l. refl)
      by (Undecided x) d same =
          let c : UndecidedCase m cws x = undecided_told m cws x d in
          absurd (c.remains (h c.several c.none_beyond))

  -- what was answered came without one
  pub before_rows : outcome_before_rows m cws ≡ Answered → AsBeforeRows e m cws
  before_rows a = by (finding_of m cws) refl (undiagnosed_is ∙ a)
    where
      by : (f : Finding) → finding_of m cws ≡ f → undiagnosed f ≡ Answered → AsBeforeRows e m cws
      by (Decided o) d q = as_with (outcome_before_rows m cws) (own_word m cws) (d ∙ ap Decided (q ∙ sym a)) (λ k l. refl)
      by (Undecided x) d q = refused q

  -- ---- before Req 02

  -- words that had to xor to zero, and were answered, did
  answered_cancels : (f : ℕ → ℕ) → cond (eqb (xor_all f 9) 0) Answered Uncorrectable ≡ Answered → xor_all f 9 ≡ 0
  answered_cancels f a = by (eqb (xor_all f 9) 0) refl a
    where
      by : (b : Bool) → eqb (xor_all f 9) 0 ≡ b → cond b Answered Uncorrectable ≡ Answered → xor_all f 9 ≡ 0
      by true z h = eqb-true (xor_all f 9) 0 z
      by false z h = refused h

  -- an answer by the line's own bytes, and the former words
  abbrev Answers : Finding → (ℕ → ℕ) → (ℕ → ℕ) → Type 0
  Answers f words former = (f ≡ Decided Answered) × ((k : ℕ) → k < 9 → words k ≡ former k)

  third : xor_all (pass_three m cws) 9 ≡ 0 → (n : ℕ) → n ≤ 1 → Answers (third_finding n m cws) (third_word n m cws) (pass_three m cws)
  unfolding third_finding third_word must_cancel
  third z zero l = (rw (eq-eqb (xor_all (pass_three m cws) 9) 0 z), λ k h. refl)
  third z (suc zero) l = (refl, λ k h. pick k h (is_flagged_beyond m cws k))
    where
      -- where all nine cancel, the xor of the other eight is the chip's own word
      pick : (k : ℕ) → k < 9 → (b : Bool) → cond b (xor_others (pass_three m cws) k) (pass_three m cws k) ≡ pass_three m cws k
      pick k h true = others_cancel (pass_three m cws) z k h
      pick k h false = refl
  third z (suc (suc n)) l = absurd (omega arith)

  steps : beyond_chips m cws ≤ 1 → (n : ℕ) → former_outcome_by n m cws ≡ Answered → Answers (finding_by n m cws) (own_word_by n m cws) (former_word_by n m cws)
  unfolding finding_by own_word_by former_outcome_by former_word_by must_cancel
  steps few zero a = (by (eqb (xor_all (pass_one m cws) 9) 0) a, λ k h. refl)
    where
      by : (b : Bool) → cond b Answered Unlocated ≡ Answered → cond b (Decided Answered) (Decided Unlocated) ≡ Decided Answered
      by true h = refl
      by false h = ap Decided h
  steps few (suc zero) a = (refl, λ k h. refl)
  steps few (suc (suc n)) a = third (answered_cancels (pass_three m cws) a) (beyond_chips m cws) few

  module _ (few : beyond_chips m cws ≤ 1) where
    pub former_answered : former_outcome m cws ≡ Answered → AsBefore e m cws
    unfolding former_outcome former_word finding_of own_word
    former_answered a =
        let now = steps few (flagged_chips m cws) a in
        as_with (former_outcome m cws) (former_word m cws) (now.0 ∙ ap Decided (sym a)) now.1
