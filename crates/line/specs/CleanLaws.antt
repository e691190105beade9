-- A visit to a clean line: it is answered in one pass, flags no chip, has no collision and leaves the line's bytes.
-- Assumes nothing.
use Rattle.std.specs.Prelude.{◌≡◌, Bool, true, false, not, ◌&&◌, List, ℕ, ◌+◌, ◌<◌, eqb, ltb, length}
use Rattle.std.proofs.Math.Path.{sym, ap, ap₂}
use Rattle.std.proofs.Common.{◌∙◌}
use Rattle.std.proofs.Math.Bool.{cond}
use Rattle.cells.specs.Chips.{bit, count, mask}
use Rattle.cells.specs.ChipLaws.{joined_ext, count_none, mask_zero, mask_count}
use Rattle.cells.specs.Cells.{chip_at}
use Rattle.cells.specs.CellLaws.{chips_line}
use Rattle.passes.specs.Passes.{is_candidate, sent_complement, is_flagged, is_collision, flagged_chips}
use Rattle.passes.specs.Scan.{is_clean}
use Rattle.passes.proofs.ScanLaws.{clean_none, clean_parity}
use Rattle.line.specs.Blame.{Evidence}
use Rattle.line.specs.Visit.{must_cancel, finding_by, finding_of, outcome_by, outcome_of, if_answered, with_words, written_back, bytes_after, own_passes, row_passes, report_of}
use Rattle.line.specs.declared.Outcome.{Outcome}
use Rattle.line.specs.declared.Outcome.TheVariants.{Answered, Unlocated}
use Rattle.line.specs.declared.Finding.{Finding}
use Rattle.line.specs.declared.Finding.TheVariants.{Decided}

module _ (m cws : List ℕ) (clean : is_clean m cws ≡ true) where
  candidates : count (is_candidate m cws) 9 ≡ 0
  candidates = mask_count (is_candidate m cws) 9 (clean_none m cws clean)

  no_candidate : (k : ℕ) (b : Bool) → k < 9 → (is_candidate m cws k && b) ≡ false
  no_candidate k b l = ap (λ (a : Bool). a && b) (count_none (is_candidate m cws) 9 candidates k l)

  no_flag : mask (is_flagged m cws) 9 ≡ 0
  unfolding is_flagged
  no_flag = mask_zero (is_flagged m cws) 9 (λ k l. no_candidate k (sent_complement m cws k) l)

  no_collision : mask (is_collision m cws) 9 ≡ 0
  unfolding is_collision
  no_collision = mask_zero (is_collision m cws) 9 (λ k l. no_candidate k (not (sent_complement m cws k)) l)

  none_flagged : flagged_chips m cws ≡ 0
  unfolding flagged_chips
  none_flagged = mask_count (is_flagged m cws) 9 no_flag

  found : finding_of m cws ≡ Decided Answered
  unfolding finding_of finding_by must_cancel
  found =
      ap (λ (n : ℕ). finding_by n m cws) none_flagged
      ∙ ap (λ (x : ℕ). cond (eqb x 0) (Decided Answered) (Decided Unlocated)) (clean_parity m cws clean)

  one_pass : own_passes m cws ≡ 1
  unfolding own_passes
  one_pass = ap₂ (λ (a b : ℕ). 1 + bit (ltb 0 a) + bit (ltb 1 b)) candidates none_flagged

  module _ (e : Evidence) where
    answered : outcome_of e m cws ≡ Answered
    unfolding outcome_of outcome_by
    answered = ap (λ (f : Finding). outcome_by f e m cws) found

    pub clean_report : report_of e m cws ≡ record { outcome = Answered; passes = 1; flagged = 0; collisions = 0 }
    unfolding report_of row_passes
    clean_report =
        λ i. record { outcome = answered i; passes = one_pass i + row_passes (found i) e; flagged = no_flag i; collisions = no_collision i }

    pub clean_bytes : length m ≡ 81 → bytes_after e m cws ≡ m
    unfolding bytes_after written_back with_words is_flagged
    clean_bytes size =
        ap (λ (o : Outcome). if_answered o (written_back e m cws) m) answered
        ∙ sym (joined_ext (chip_at m) _ 9 (λ k l. rw (no_candidate k (sent_complement m cws k) l)))
        ∙ chips_line m size
