-- A visit with the record and the memory: what it gives, and that to a clean line it changes neither.
-- Assumes nothing.
use Rattle.std.specs.Prelude.{◌≡◌, refl, true, eqb, length, get_or}
use Rattle.std.proofs.Common.{sym, ◌∙◌}
use Rattle.std.proofs.Math.Path.{ap, ap₂}
use Rattle.std.proofs.Math.Bool.{cond}
use mathlib.Core.List.{List}
use Prim.Native.Nat.{ℕ, ◌≤◌}
use Rattle.passes.specs.Scan.{is_clean}
use Rattle.line.specs.Visit.{refusal_of}
use Rattle.line.specs.CleanLaws.{clean_report, clean_bytes}
use Rattle.line.specs.declared.Report.{Report}
use Rattle.line.specs.declared.Outcome.TheVariants.{Answered}
use Rattle.record.specs.declared.Rank.{Rank}
use Rattle.record.specs.Record.{total_limit, moved_by, counted_by, after_visit}
use Rattle.record.specs.RecordLaws.{after_visit_none, after_visit_parts, registers_set}
use Rattle.memory.specs.Lines.{line_at, with_line}
use Rattle.rows.specs.Rows.{evidence_of, report_in, bytes_in}
use Rattle.memory.specs.LineLaws.{length_with_line, line_same}
use Rattle.visits.specs.declared.read.Visited.{Visited}
use Rattle.visits.specs.Visits.{device, visit_of, words_after, visited_of, result_of}

-- what a visit gives, put together from what it reports, v, and the record's parts after it
module _ (task : ℕ) (r : Rank) (m : List ℕ) (l : ℕ) where
  report : Report
  report = report_in r.lines m l r.catch_words

  pub result_made : (v : Visited) (cws regs totals : List ℕ) → v ≡ visited_of (report_in r.lines m l r.catch_words)
      → r.registers ≡ r.catch_words → length r.registers ≡ 9 → cws ≡ words_after (report_in r.lines m l r.catch_words) r.catch_words
      → regs ≡ cond (eqb v.collisions 0) r.registers cws → totals ≡ counted_by v.refusal task v.flagged r.repairs
      → record {
        refusal = v.refusal;
        passes = v.passes;
        flagged = v.flagged;
        collisions = v.collisions;
        rank = record { lines = r.lines; enable = r.enable; catch_words = cws; registers = regs; repairs = totals };
      }
      ≡ result_of (visit_of task (device r m) l)
  unfolding result_of visit_of visited_of words_after report
  result_made v cws regs totals e equal nine words registers counts =
      let n : ℕ = refusal_of report.outcome in
      let set : regs ≡ moved_by n report.collisions r.registers =
      registers
      ∙ ap₂ (λ (w : Visited) (x : List ℕ). cond (eqb w.collisions 0) r.registers x) e words
      ∙ registers_set n report.collisions r.registers r.catch_words equal nine in
      let counted : totals ≡ counted_by n task report.flagged r.repairs =
      counts ∙ ap (λ (w : Visited). counted_by w.refusal task w.flagged r.repairs) e in
      (λ i. record {
        refusal = (e i).refusal;
        passes = (e i).passes;
        flagged = (e i).flagged;
        collisions = (e i).collisions;
        rank = record { lines = r.lines; enable = r.enable; catch_words = words i; registers = set i; repairs = counted i };
      })
      ∙ ap (λ (q : Rank). record { refusal = n; passes = report.passes; flagged = report.flagged; collisions = report.collisions; rank = q })
      (sym (after_visit_parts task report r))

-- the memory s after a visit is as long as it was
pub length_visited : (n : ℕ) (m : List ℕ) (l : ℕ) (cws : List ℕ) {s : List ℕ} → s ≡ with_line m l (bytes_in n m l cws) → length s ≡ length m
length_visited n m l cws e = ap length e ∙ length_with_line m l (bytes_in n m l cws)

-- ---- a clean line

-- the report of a visit to it
abbrev pub clean : Report
clean = record { outcome = Answered; passes = 1; flagged = 0; collisions = 0 }

pub clean_report_in : (n : ℕ) (m : List ℕ) (l : ℕ) (cws : List ℕ) → is_clean (line_at m l) cws ≡ true → report_in n m l cws ≡ clean
unfolding report_in
clean_report_in n m l cws is-clean = clean_report (line_at m l) cws is-clean (evidence_of n m l cws)

-- the memory after it
pub clean_memory : (n : ℕ) (m : List ℕ) (l : ℕ) (cws : List ℕ) → length (line_at m l) ≡ 81 → is_clean (line_at m l) cws ≡ true
    → with_line m l (bytes_in n m l cws) ≡ m
unfolding bytes_in
clean_memory n m l cws size is-clean = ap (with_line m l) (clean_bytes (line_at m l) cws is-clean (evidence_of n m l cws) size) ∙ line_same m l

-- the visit; the record has nine words twice and its totals within their limit
pub clean_visit : (task : ℕ) (r : Rank) (m : List ℕ) (l : ℕ) → length (line_at m l) ≡ 81 → is_clean (line_at m l) r.catch_words ≡ true
    → length r.catch_words ≡ 9 → length r.registers ≡ 9 → get_or r.repairs task 0 ≤ total_limit
    → visit_of task (device r m) l ≡ record { out = clean; now = device r m }
unfolding visit_of
clean_visit task r m l size is-clean words registers total =
    let report : report_in r.lines m l r.catch_words ≡ clean = clean_report_in r.lines m l r.catch_words is-clean in
    let kept : after_visit task (report_in r.lines m l r.catch_words) r ≡ r =
    ap (λ (v : Report). after_visit task v r) report ∙ after_visit_none task clean r refl refl words registers total in
    λ i. record { out = report i; now = device (kept i) (clean_memory r.lines m l r.catch_words size is-clean i) }
