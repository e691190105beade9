use mathlib.Core.Path.{◌≡◌}
use mathlib.Core.Bool.{cond}
use mathlib.Core.List.{List}
use Prim.Native.Nat.{ℕ, ◌<◌}
use lib.ListN.{length, get_or}
use Rattle.cells.specs.Chips.{in_mask}
use Rattle.cells.specs.Cells.{chip_at, codeword}
use Rattle.cells.proofs.Loops.{Pending}
use Rattle.line.proofs.write_back.Given as goal

-- chip k's nine bytes afterwards
abbrev pub chip : List ℕ → ℕ → List ℕ → ℕ → List ℕ
chip line flagged words k = cond (in_mask flagged k) (codeword (get_or words k 0)) (chip_at line k)

-- the chips of `rest` are as they were, the others as they will be
pub record Laid (line words : List ℕ) (flagged rest : ℕ) (s : List ℕ) : Type 0 where
  pub pending : Pending (in_mask flagged) rest
  pub size : length s ≡ 81
  pub done : (k : ℕ) → k < 9 → chip_at s k ≡ cond (in_mask rest k) (chip_at line k) (chip line flagged words k)

abbrev pub invariant-loop-k : goal.invariant-loop-k
invariant-loop-k l = Laid l.initial.line l.places.words l.flagged l.k-iterator.rest l.line
