use Rattle.std.proofs.Common.{List, ℕ, ◌*◌, ◌-◌}
use Rattle.words.specs.Bytes.{bytes_from}
use Rattle.cells.proofs.Loops.{Blocks}
use Rattle.cells.proofs.read_line.Given as goal

-- chip k's word, as bytes
abbrev pub word : List ℕ → ℕ → List ℕ
word line k = bytes_from 8 (9 * k) line

abbrev pub invariant-loop-k : goal.invariant-loop-k
invariant-loop-k l = Blocks (word l.line) 8 8 l.initial.buffer l.buffer l.k

abbrev pub decreases-loop-k : goal.decreases-loop-k
decreases-loop-k l = 8 - l.k
