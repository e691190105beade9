use Rattle.std.proofs.Common.{◌≡◌, ℕ, ◌+◌, ◌<◌, ◌≤◌, List, length, get_or}
use Rattle.cells.specs.Chips.{bit, in_mask}
use Rattle.rows.proofs.add.Given as goal

-- the counts once the loop has passed those below k: they are added to, and the others are as they were
pub record AddedBelow (flagged : ℕ) (counts now : List ℕ) (k : ℕ) : Type 0 where
  pub size : length now ≡ length counts
  pub below : (j : ℕ) → j < k → get_or now j 0 ≡ get_or counts j 0 + bit (in_mask flagged j)
  pub above : (j : ℕ) → k ≤ j → get_or now j 0 ≡ get_or counts j 0

abbrev pub invariant-loop-k : goal.invariant-loop-k
invariant-loop-k l = AddedBelow l.flagged l.initial.counts l.counts l.k
