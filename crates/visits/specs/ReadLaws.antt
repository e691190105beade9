-- The visit of an accepted read, by its outcome.
-- Assumes nothing.
use Rattle.std.specs.Prelude.{◌≡◌, refl, true, ℕ, ◌+◌, ◌*◌, ◌≤◌, ◌<◌}
use Rattle.std.proofs.Math.Path.{sym, ap}
use Rattle.std.proofs.Common.{◌∙◌, arith}
use mathlib.Core.List.{List}
use Rattle.std.proofs.Math.ListN.{length}
use Rattle.words.specs.Bytes.{bytes_of, bytes_from, Bytes}
use Rattle.words.specs.ByteLaws.{bytes_of_number, bytes_bytes_from, length_bytes_from}
use Rattle.cells.specs.ChipLaws.{joined_ext}
use Rattle.cells.specs.Cells.{word_at, line_of}
use Rattle.passes.specs.Scan.{is_clean}
use Rattle.line.specs.Visit.{if_answered, report_of, refusal_of}
use Rattle.line.proofs.AnsweredLaws.{word_after, length_after}
use Rattle.line.specs.declared.Report.{Report}
use Rattle.line.specs.declared.Outcome.{Outcome}
use Rattle.line.specs.declared.Outcome.TheVariants.{Answered, Unlocated, Uncorrectable}
use Rattle.record.specs.RecordLaws.{unmoved}
use Rattle.memory.specs.Lines.{line_at, with_line}
use Rattle.memory.specs.LineLaws.{length_line_at, line_laid, bytes_line}
use Rattle.rows.specs.Rows.{evidence_of, report_in, word_in, bytes_in}
use Rattle.visits.specs.Visits.{found_line, words_after, visited_of}
use Rattle.visits.specs.VisitLaws.{clean, clean_report_in, clean_memory}

-- where y's words are those that a visit found, y's 64 bytes are the line that it found
line_found : (n : ℕ) (m : List ℕ) (l : ℕ) (cws y : List ℕ) → length y ≡ 81 → Bytes y → ((k : ℕ) → k < 9 → word_at y k ≡ word_in n m l cws k)
    → line_of y ≡ found_line n m l cws
unfolding line_of found_line word_at
line_found n m l cws y size bytes same =
    joined_ext (λ k. bytes_from 8 (9 * k) y) (λ k. bytes_of 8 (word_in n m l cws k)) 8
    (λ k b.
    sym (bytes_of_number (bytes_from 8 (9 * k) y) 8 (bytes_bytes_from 8 (9 * k) y bytes) (length_bytes_from 8 (9 * k) y (omega arith)))
    ∙ ap (bytes_of 8) (same k (omega arith)))

-- l is a line of the memory m of n lines
module _ (n : ℕ) (m cws : List ℕ) (l : ℕ) (fits : 81 * l + 81 ≤ length m) (bytes : Bytes m) where
  long : length (line_at m l) ≡ 81
  long = length_line_at m l fits

  length_in : length (bytes_in n m l cws) ≡ 81
  unfolding bytes_in
  length_in = length_after (evidence_of n m l cws) (line_at m l) cws long

  -- the line that an answered visit found stands in the memory s after it
  pub found_after_lem : (s : List ℕ) → s ≡ with_line m l (bytes_in n m l cws) → Bytes s → (report_in n m l cws).outcome ≡ Answered
      → line_of (line_at s l) ≡ found_line n m l cws
  unfolding report_in report_of word_in bytes_in
  found_after_lem s e after answered =
      let laid : line_at s l ≡ bytes_in n m l cws = ap (λ (y : List ℕ). line_at y l) e ∙ line_laid m l fits (bytes_in n m l cws) length_in in
      line_found n m l cws (line_at s l) (ap length laid ∙ length_in) (bytes_line s l after)
      (λ k h.
      ap (λ (y : List ℕ). word_at y k) laid
      ∙ word_after (line_at m l) long (bytes_line m l bytes) (evidence_of n m l cws) cws answered k h)

  -- what is put in the buffer b by the outcome of the visit's report v
  pub visited_buffer : (b : List ℕ) (v : Report) → v ≡ report_in n m l cws → (s : List ℕ) → s ≡ with_line m l (bytes_in n m l cws)
      → Bytes s → if_answered v.outcome (line_of (line_at s l)) b ≡ if_answered (report_in n m l cws).outcome (found_line n m l cws) b
  visited_buffer b v e s memory after =
      ap (λ (w : Report). if_answered w.outcome (line_of (line_at s l)) b) e ∙ by (report_in n m l cws).outcome refl
    where
      by : (o : Outcome) → (report_in n m l cws).outcome ≡ o → if_answered o (line_of (line_at s l)) b ≡ if_answered o (found_line n m l cws) b
      by Answered answered = found_after_lem s memory after answered
      by Unlocated refused = refl
      by Uncorrectable refused = refl

  -- a clean line: what is reported, and catch-words, memory and buffer after the visit
  module _ (is-clean : is_clean (line_at m l) cws ≡ true) where
    reported : report_in n m l cws ≡ clean
    reported = clean_report_in n m l cws is-clean

    pub clean_visited : record { refusal = 0; passes = 1; flagged = 0; collisions = 0 } ≡ visited_of (report_in n m l cws)
    unfolding visited_of refusal_of
    clean_visited = sym (ap visited_of reported)

    pub clean_words : length cws ≡ 9 → cws ≡ words_after (report_in n m l cws) cws
    unfolding words_after refusal_of
    clean_words nine = sym (ap (λ (w : Report). words_after w cws) reported ∙ unmoved 0 cws nine)

    pub clean_kept : m ≡ with_line m l (bytes_in n m l cws)
    clean_kept = sym (clean_memory n m l cws long is-clean)

    pub clean_buffer : (b : List ℕ) → line_of (line_at m l) ≡ if_answered (report_in n m l cws).outcome (found_line n m l cws) b
    clean_buffer b = visited_buffer b clean (sym reported) m clean_kept bytes
