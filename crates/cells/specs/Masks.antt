-- What a turn through the chips of a mask takes off it.
-- Definitions alone; what holds of them is in `MaskLaws`.
use Rattle.std.specs.Prelude.{◌≡◌, ℕ, ◌-◌, ◌^◌, ◌<◌}
use Rattle.std.specs.Int.Count.{count_trailing_zeros}

-- the lowest chip k of mask m is taken off it, and t is left
pub record Takes (m k t : ℕ) : Type 0 where
  pub some : 0 < m
  pub lowest : k ≡ count_trailing_zeros 32 m
  pub less : t ≡ m - 2 ^ count_trailing_zeros 32 m
