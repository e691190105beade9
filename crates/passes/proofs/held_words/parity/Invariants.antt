use Rattle.std.proofs.Common.{◌-◌}
use Rattle.cells.specs.Chips.{xor_all}
use Rattle.cells.specs.Cells.{word_at}
use Rattle.cells.proofs.Loops.{Upto}
use Rattle.passes.proofs.held_words.parity.Given as goal

abbrev pub invariant-loop-k : goal.invariant-loop-k
invariant-loop-k l = Upto (xor_all (word_at l.line)) 9 l.parity l.k

abbrev pub decreases-loop-k : goal.decreases-loop-k
decreases-loop-k l = 9 - l.k
