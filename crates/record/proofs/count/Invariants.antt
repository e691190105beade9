use Rattle.std.proofs.Common.{◌≡◌}
use Rattle.record.specs.RecordLaws.{counted_below}
use Rattle.record.proofs.count.Given as goal

abbrev pub invariant-loop-i : goal.invariant-loop-i
invariant-loop-i l = l.totals ≡ counted_below l.task l.repairs l.initial.totals l.i
