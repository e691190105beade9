use Rattle.std.proofs.Common.{◌≡◌, ◌*◌, ◌-◌, ◌≤◌, length}
use Rattle.cells.proofs.Loops.{xored}
use Rattle.cells.proofs.xor_into.Given as goal

abbrev pub invariant-loop-i : goal.invariant-loop-i
invariant-loop-i l = (l.i ≤ 9) × (length l.line ≡ length l.initial.line) × (l.line ≡ xored l.initial.line (9 * l.k) l.pattern l.i)

abbrev pub decreases-loop-i : goal.decreases-loop-i
decreases-loop-i l = 9 - l.i
