-- What a visit that answers restores. Definitions alone; when it does so is said in `ToleratedLaws`.
use Rattle.std.specs.Prelude.{◌≡◌, List, ℕ, ◌<◌}
use Rattle.cells.specs.Cells.{stored}
use Rattle.line.specs.Blame.{Evidence}
use Rattle.line.specs.Visit.{outcome_of, word_of, bytes_after}
use Rattle.line.specs.declared.Outcome.TheVariants.{Answered}

-- a visit to the line m answers: with the words w, and its bytes are again those that were stored
pub record Restores (m : List ℕ) (w : ℕ → ℕ) (e : Evidence) (cws : List ℕ) : Type 0 where
  pub answered : outcome_of e m cws ≡ Answered
  pub word : (k : ℕ) → k < 9 → word_of e m cws k ≡ w k
  pub stored_again : bytes_after e m cws ≡ stored w
