-- Eight remainders side by side in the bytes of a number, for the walks of `position` (document 02, Req 03). Definitions alone.
use Rattle.std.specs.Prelude.{cond, ℕ, zero, suc, ◌+◌, ◌*◌, ◌/◌, ◌%◌, eqb}

-- a function of each of the n lowest bytes of a number, each in its place
unfoldable pub each_byte : ℕ → (ℕ → ℕ) → ℕ → ℕ
each_byte zero f v = 0
each_byte (suc n) f v = each_byte n f (v / 256) * 256 + f (v % 256)

-- the highest bit of a byte that is s, and no bit of another
unfoldable pub mark_if : ℕ → ℕ → ℕ
mark_if s b = cond (eqb b s) 128 0
