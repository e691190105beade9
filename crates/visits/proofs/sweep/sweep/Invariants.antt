use Rattle.std.proofs.Common.{ℕ, ◌-◌, List}
use Rattle.record.specs.Record.{accepted}
use Rattle.visits.specs.declared.sweep.Counts.{Counts}
use Rattle.visits.specs.declared.sweep.Tally.{Tally}
use Rattle.visits.specs.SweepLaws.{Swept}
use Rattle.visits.proofs.sweep.sweep.Given as goal

-- what the loop has, as one
abbrev pub tally : ℕ → List ℕ → List ℕ → Counts → Tally
tally lines cws totals counts = record { counts = counts; rank = accepted lines cws totals }

abbrev pub invariant-loop-line : goal.invariant-loop-line
invariant-loop-line l =
    Swept l.task (accepted l.lines l.initial.catch_words l.initial.totals) l.initial.memory l.first l.n
    (tally l.lines l.catch_words l.totals l.counts) l.memory (l.line - l.first)
