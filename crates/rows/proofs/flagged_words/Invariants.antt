use Prim.Native.Nat.{◌-◌}
use Rattle.passes.specs.Passes.{is_flagged}
use Rattle.memory.specs.Lines.{line_at}
use Rattle.rows.proofs.Counting.{Counted}
use Rattle.rows.proofs.flagged_words.Given as goal

abbrev pub invariant-loop-other : goal.invariant-loop-other
invariant-loop-other l = Counted (λ j. is_flagged (line_at l.memory j) l.catch_words) l.line l.first l.end l.counts l.other

abbrev pub decreases-loop-other : goal.decreases-loop-other
decreases-loop-other l = l.end - l.other
