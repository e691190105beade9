use Rattle.std.proofs.Common.{◌≡◌, ℕ, ◌<◌, ◌≤◌, List, cond, length, get_or}
use Rattle.cells.specs.Chips.{in_mask}
use Rattle.record.specs.Record.{grown}
use Rattle.record.proofs.move_words.Given as goal

-- the words once the loop has passed those below k: they are moved, and the others are as they were
pub record MovedBelow (collisions : ℕ) (words now : List ℕ) (k : ℕ) : Type 0 where
  pub size : length now ≡ length words
  pub below : (j : ℕ) → j < k → get_or now j 0 ≡ cond (in_mask collisions j) (grown (get_or words j 0)) (get_or words j 0)
  pub above : (j : ℕ) → k ≤ j → get_or now j 0 ≡ get_or words j 0

abbrev pub invariant-loop-k : goal.invariant-loop-k
invariant-loop-k l = MovedBelow l.collisions l.initial.words l.words l.k
