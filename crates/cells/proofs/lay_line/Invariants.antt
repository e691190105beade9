use Rattle.std.proofs.Common.{List, ℕ, ◌-◌}
use Rattle.cells.specs.Chips.{xor_all}
use Rattle.cells.specs.Cells.{codeword, eight_at, line_word}
use Rattle.cells.proofs.Loops.{Blocks, Upto}
use Rattle.cells.proofs.lay_line.Given as goal

-- chip k's nine bytes
abbrev pub chip : List ℕ → ℕ → List ℕ
chip bytes k = codeword (line_word bytes k)

abbrev pub invariant-loop-k : goal.invariant-loop-k
invariant-loop-k l = Blocks (chip l.bytes) 9 9 l.initial.line l.line l.k × Upto (xor_all (eight_at l.bytes)) 8 l.parity l.k

abbrev pub decreases-loop-k : goal.decreases-loop-k
decreases-loop-k l = 8 - l.k
