-- How a visit ends, by what the line's own bytes tell and by the diagnosis, and what is written back. Assumes nothing.
use mathlib.Core.Path.{◌≡◌, refl, sym, ap, ap₂, ◌∙◌, subst⁻¹}
use mathlib.Core.Bool.{Bool, true, false, cond}
use mathlib.Core.List.{List}
use Prim.Native.Nat.{ℕ, ◌+◌, ◌*◌, ◌^◌, ◌≤◌, ◌<◌, zero-le}
use native.Mathlib.Omega.{arith}
use lib.Dec.{ltb}
use lib.ListN.{get_or}
use Rattle.cells.specs.Chips.{joined, xor_all, count, mask, in_mask, AtPlaces}
use Rattle.cells.specs.ChipLaws.{joined_ext, bit_lt, mask_lt}
use Rattle.cells.specs.Cells.{chip_at, codeword}
use Rattle.cells.proofs.Loops.{member_is}
use Rattle.passes.specs.Passes.{is_candidate, is_flagged, flagged_chips, pass_three}
use Rattle.line.specs.Blame.{Evidence}
use Rattle.line.specs.Found.{may_answer, ChecksAt, ChecksIfAnswered, ChecksUnlessRefused}
use Rattle.line.specs.Visit.{finding_of, own_word, own_passes, outcome_by, word_by, row_passes, outcome_of, word_of, if_answered, with_words, written_back, bytes_after, examined_of, report_of}
use Rattle.line.specs.FindingLaws.{undecided_told}
use Rattle.line.specs.declared.Examined.{Examined}
use Rattle.line.specs.declared.Outcome.{Outcome}
use Rattle.line.specs.declared.Finding.{Finding}
use Rattle.line.specs.declared.Finding.TheVariants.{Decided, Undecided}

-- ---- by the finding

module _ (e : Evidence) (m cws : List ℕ) where
  -- an outcome, passes, words and check bytes are those by a finding
  pub record Ends (f : Finding) (o : Outcome) (passes : ℕ) (ws cs : List ℕ) : Type 0 where
    pub outcome : o ≡ outcome_by f e m cws
    pub extra : passes ≡ row_passes f e
    pub words : AtPlaces (is_flagged m cws) (word_by f e m cws) ws 9
    pub checks : ChecksIfAnswered o (is_flagged m cws) ws cs

  -- the line's own bytes decide
  pub ends_decided : {f : Finding} {o : Outcome} (ws cs : List ℕ) → f ≡ Decided o → AtPlaces (is_flagged m cws) (own_word m cws) ws 9
      → ChecksUnlessRefused f (is_flagged m cws) ws cs → Ends (Decided o) o 0 ws cs
  unfolding outcome_by row_passes word_by may_answer
  ends_decided {f} {o} ws cs d ew ec =
      record {
        outcome = refl;
        extra = refl;
        words = ew;
        checks = λ a. ec (ap may_answer d ∙ ap (λ (p : Outcome). if_answered p true false) a);
      }

  -- the diagnosis does
  pub ends_diagnosed : (x : ℕ) {o : Outcome} {passes : ℕ} {ws cs : List ℕ} → o ≡ outcome_by (Undecided x) e m cws → passes ≡ 2 * e.others
      → AtPlaces (is_flagged m cws) (word_by (Undecided x) e m cws) ws 9 → ChecksIfAnswered o (is_flagged m cws) ws cs → Ends (Undecided x) o passes ws cs
  unfolding row_passes
  ends_diagnosed x eo ep ew ec = record { outcome = eo; extra = ep; words = ew; checks = ec }

  -- what the line's own bytes leave for the diagnosis
  module _ {f : Finding} {x : ℕ} (d : f ≡ Undecided x) (same : f ≡ finding_of m cws) where
    pub left_xor : x ≡ xor_all (pass_three m cws) 9
    left_xor = (undecided_told m cws x (sym same ∙ d)).xor

    pub left_words : (ws : List ℕ) → AtPlaces (is_flagged m cws) (own_word m cws) ws 9 → AtPlaces (is_flagged m cws) (pass_three m cws) ws 9
    left_words ws ew = record { at = λ k l t. ew.at k l t ∙ (undecided_told m cws x (sym same ∙ d)).word k }

    pub left_checks : (ws cs : List ℕ) → ChecksUnlessRefused f (is_flagged m cws) ws cs → ChecksAt (is_flagged m cws) ws cs
    unfolding may_answer
    left_checks ws cs ec = ec (ap may_answer d)

-- ---- the report and the bytes after the visit

module _ (e : Evidence) (m cws : List ℕ) {x : Examined} (ex : x ≡ examined_of m cws) where
  flagged_is : x.flagged ≡ mask (is_flagged m cws) 9
  unfolding examined_of
  flagged_is = ap (λ (y : Examined). y.flagged) ex

  pub flagged_fits : x.flagged < 2 ^ 9
  flagged_fits = subst⁻¹ (λ (n : ℕ). n < 2 ^ 9) flagged_is (mask_lt (is_flagged m cws) 9)

  -- the flagged chips by their mask
  pub checks_masked : {o : Outcome} (ws cs : List ℕ) → ChecksIfAnswered o (is_flagged m cws) ws cs → ChecksIfAnswered o (in_mask x.flagged) ws cs
  checks_masked ws cs ec a = record { at = λ k l t. (ec a).at k l (sym (member_is (is_flagged m cws) flagged_is l refl) ∙ t) }

  -- a visit makes at most 3 passes over the line and 254 over the others
  pub few_passes : {passes : ℕ} → passes ≡ row_passes (finding_of m cws) e → e.others ≤ 127 → x.passes + passes ≤ 257
  unfolding examined_of own_passes row_passes
  few_passes {passes} ep few =
      let own : x.passes ≡ own_passes m cws = ap (λ (y : Examined). y.passes) ex in
      let extra : passes ≤ 254 = subst⁻¹ (λ (n : ℕ). n ≤ 254) ep (by (finding_of m cws)) in
      omega (arith, own, extra, bit_lt (ltb 0 (count (is_candidate m cws) 9)), bit_lt (ltb 1 (flagged_chips m cws)))
    where
      by : (f : Finding) → row_passes f e ≤ 254
      by (Decided o) = zero-le
      by (Undecided y) = omega (arith, few)

  pub report_is : {o : Outcome} {passes : ℕ} → o ≡ outcome_of e m cws → passes ≡ row_passes (finding_of m cws) e
      → record { outcome = o; passes = x.passes + passes; flagged = x.flagged; collisions = x.collisions } ≡ report_of e m cws
  unfolding examined_of report_of
  report_is eo ep = λ i. record { outcome = eo i; passes = (ex i).passes + ep i; flagged = (ex i).flagged; collisions = (ex i).collisions }

  pub bytes_are : {o : Outcome} (ws : List ℕ) → o ≡ outcome_of e m cws → AtPlaces (is_flagged m cws) (word_of e m cws) ws 9
      → if_answered o (joined (λ k. cond (in_mask x.flagged k) (codeword (get_or ws k 0)) (chip_at m k)) 9) m ≡ bytes_after e m cws
  unfolding bytes_after written_back with_words
  bytes_are ws eo ew =
      ap₂ (λ (u : Outcome) (bs : List ℕ). if_answered u bs m) eo
      (joined_ext _ _ 9
      (λ k l.
      ap (λ (b : Bool). cond b (codeword (get_or ws k 0)) (chip_at m k)) (member_is (is_flagged m cws) flagged_is l refl)
      ∙ laid k l (is_flagged m cws k) refl))
    where
      laid : (k : ℕ) → k < 9 → (b : Bool) → is_flagged m cws k ≡ b
          → cond b (codeword (get_or ws k 0)) (chip_at m k) ≡ cond b (codeword (word_of e m cws k)) (chip_at m k)
      laid k l true h = ap codeword (ew.at k l h)
      laid k l false h = refl
