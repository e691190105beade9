-- What the code asks of the counts of nine chips. Not of document 02.
-- Definitions alone.
use Rattle.std.specs.Prelude.{List, ℕ, ◌≤◌, ◌<◌, get_or}
use Rattle.cells.specs.Cells.{chips}

-- each is at most n
abbrev pub AtMost : ℕ → List ℕ → Type 0
AtMost n counts = (k : ℕ) → k < chips → get_or counts k 0 ≤ n
