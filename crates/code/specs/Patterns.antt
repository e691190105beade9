-- Patterns of few bits. Definitions alone; what holds of them is in `MendLaws`.
use Rattle.std.specs.Prelude.{◌≡◌, ◌⊎◌, ℕ, ◌^◌, ◌<◌}

-- zero, or a number with one bit, below 2 ^ k
abbrev pub OneBit : ℕ → ℕ → Type 0
OneBit k p = (p ≡ 0) ⊎ ((i : ℕ) × (i < k) × (p ≡ 2 ^ i))
