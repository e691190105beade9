use Rattle.std.proofs.Common.{◌≡◌, ℕ, Bool, ◌<◌}
use Rattle.cells.specs.Chips.{mask}
use Rattle.cells.proofs.Loops.{Upto}
use Rattle.cells.proofs.masks.of_chips.Given as goal

abbrev pub invariant-loop-k : goal.invariant-loop-k
invariant-loop-k g l =
    (p : ℕ → Bool) → ((k : ℕ) (b : Bool) → k < 9 → goal.F-post g l.test k b → b ≡ p k) → Upto (mask p) 9 l.mask l.k
