-- `code::word_bit` meets its contract: the position is of the check, of the word, or of neither.
-- Assumes nothing.
use mathlib.Core.Path.{◌≡◌, sym, ap, ◌∙◌}
use Prim.Native.Nat.{ℕ, ◌-◌, ◌*◌, ◌/◌, ◌%◌, ◌^◌, ◌≤◌, ◌<◌}
use native.Mathlib.Nat.{mod-eq_of_lt, one-mul}
use native.Mathlib.Omega.{arith}
use lib.Pow.{pow-lt}
use Rattle.code.specs.Code.{bit_at}
use Rattle.code.proofs.MendLaws.{bit_in_check, bit_in_word, bit_in_none}
use Rattle.code.proofs.word_bit.Goals as goal

-- the bit as the code makes it
shifted : (p : ℕ) → 8 ≤ p → p < 72 → 1 * 2 ^ (p - 8) % 2 ^ 64 ≡ bit_at p / 256
shifted p l h =
    let k : p - 8 < 64 = omega arith in
    ap (λ (x : ℕ). x % 2 ^ 64) (one-mul (2 ^ (p - 8))) ∙ mod-eq_of_lt (pow-lt k) ∙ sym (bit_in_word p l h)

pub returns-then-position-lt8 : goal.returns-then-position-lt8
returns-then-position-lt8 c = sym (bit_in_check c.args.position c.if-position-lt8.true)

pub returns-then-position-lt72 : goal.returns-then-position-lt72
returns-then-position-lt72 c = shifted c.args.position c.if-position-lt8.false c.if-position-lt72.true

pub returns-else-position-lt72 : goal.returns-else-position-lt72
returns-else-position-lt72 c = sym (bit_in_none c.args.position c.if-position-lt72.false)
