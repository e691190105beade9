-- `code::check_bit` meets its contract: the position is of the check, or not.
-- Assumes nothing.
use mathlib.Core.Path.{◌≡◌, sym, ap, ◌∙◌}
use Prim.Native.Nat.{ℕ, ◌*◌, ◌%◌, ◌^◌, ◌<◌}
use native.Mathlib.Nat.{mod-eq_of_lt, one-mul}
use lib.Pow.{pow-lt}
use Rattle.code.specs.Code.{bit_at}
use Rattle.code.proofs.MendLaws.{check_bit_own, check_bit_none}
use Rattle.code.proofs.check_bit.Goals as goal

-- the bit as the code makes it
shifted : (p : ℕ) → p < 8 → 1 * 2 ^ p % 2 ^ 8 ≡ bit_at p % 256
shifted p h = ap (λ (x : ℕ). x % 2 ^ 8) (one-mul (2 ^ p)) ∙ mod-eq_of_lt (pow-lt h) ∙ sym (check_bit_own p h)

pub returns-then-position-lt8 : goal.returns-then-position-lt8
returns-then-position-lt8 c = shifted c.args.position c.if-position-lt8.true

pub returns-else-position-lt8 : goal.returns-else-position-lt8
returns-else-position-lt8 c = sym (check_bit_none c.args.position c.if-position-lt8.false)
