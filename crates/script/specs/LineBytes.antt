-- What `Line` of `src/sessions.rt` is to contracts. Nothing of its fields is left out, as `Copy` asks.
-- Definitions alone.
use Rattle.std.specs.Prelude.{ℕ, List}

-- the bytes kept of the line that has begun, and what lies in the room behind them
pub record LineBytes : Type 0 where
  pub bytes : List ℕ
  pub spare : List ℕ
