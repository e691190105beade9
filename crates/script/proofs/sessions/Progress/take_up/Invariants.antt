use Rattle.std.proofs.Common.{length}
use Rattle.script.specs.SessionLaws.{Going}
use Rattle.script.proofs.sessions.Progress.take_up.Given as goal

abbrev pub invariant-loop-end : goal.invariant-loop-end
invariant-loop-end l = Going l.initial.self l.self l.bytes l.rest l.initial.memory l.initial.out l.memory l.out

abbrev pub decreases-loop-end : goal.decreases-loop-end
decreases-loop-end l = length l.rest
