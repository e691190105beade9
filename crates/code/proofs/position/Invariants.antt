use Rattle.code.proofs.Walk.{Walked}
use Rattle.code.proofs.position.Given as goal

abbrev pub invariant-loop-i : goal.invariant-loop-i
invariant-loop-i l = Walked l.syndrome l.powers l.found l.i
