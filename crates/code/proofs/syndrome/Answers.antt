-- `code::syndrome` meets its contract: the given check byte is its own remainder.
-- Assumes nothing.
use mathlib.Core.Path.{sym, ap, ◌∙◌}
use Prim.Native.Nat.{ℕ}
use lib.Bits.{bit_xor}
use Rattle.code.proofs.CodeLaws.{syndrome_of_lem}
use Rattle.code.proofs.syndrome.Goals as goal

pub returns : goal.returns
returns c =
    ap (λ (n : ℕ). bit_xor n c.args.check) c.check_byte.ensures
    ∙ sym (syndrome_of_lem c.args.word c.args.check c.ranges.check.fits)
