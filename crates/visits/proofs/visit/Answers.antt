-- `visits::visit` meets its contract. Assumes nothing.
use mathlib.Core.Path.{ap, ◌∙◌}
use Prim.Native.Nat.{ℕ}
use Rattle.line.specs.declared.Report.{Report}
use Rattle.record.specs.Record.{moved_by}
use Rattle.visits.specs.Visits.{words_after}
use Rattle.visits.proofs.visit.Goals as goal

pub returns : goal.returns
unfolding words_after
returns c =
    let a = c.args in
    let v = c.visit-report in record {
      report = v.ensures.report;
      catch_words = c.move_words.ensures
          ∙ ap (λ (n : ℕ). moved_by n v.result.collisions a.catch_words.now) c.refusal-refusal.ensures
          ∙ ap (λ (w : Report). words_after w a.catch_words.now) v.ensures.report;
      memory = v.ensures.memory;
    }
