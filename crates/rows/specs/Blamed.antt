-- What the code finds of a blamed chip and does for it. Not of document 02.
-- Definitions alone.
use Rattle.std.specs.Prelude.{◌≡◌, ℕ, ◌<◌, Option, MatchOption, get_or, set}
use Rattle.std.specs.Int.Bits.{bit_xor}
use Rattle.std.specs.Int.Count.{count_trailing_zeros}
use Rattle.code.specs.Code.{check_of}
use Rattle.cells.specs.declared.places.Places.{Places}
use Rattle.line.specs.declared.Outcome.{Outcome}
use Rattle.line.specs.declared.Outcome.TheVariants.{Answered, Uncorrectable}

-- the lowest chip of a mask, none of the empty one
abbrev pub IsLowest : ℕ → Option ℕ → Type 0
IsLowest mask chip = MatchOption chip (mask ≡ 0) (λ k. (0 < mask) × (k ≡ count_trailing_zeros 32 mask))

-- where what chip k sent, taken off x, is put at its place
pub record IsPut (k x : ℕ) (before after : Places) : Type 0 where
  pub words : after.words ≡ set before.words k (bit_xor x (get_or before.words k 0))
  pub checks : after.checks ≡ set before.checks k (check_of (bit_xor x (get_or before.words k 0)))
  pub there : (get_or after.words k 0 ≡ bit_xor x (get_or before.words k 0))
      × (get_or after.checks k 0 ≡ check_of (bit_xor x (get_or before.words k 0)))

-- so it is for the blamed chip, and the line is answered; with none, nothing changes and it is refused
abbrev pub IsRebuilt : Option ℕ → ℕ → Places → Places → Outcome → Type 0
IsRebuilt blamed x before after outcome =
    MatchOption blamed ((outcome ≡ Uncorrectable) × (after ≡ before)) (λ k. (outcome ≡ Answered) × IsPut k x before after)
