-- `code::lowest_bit` meets its contract. Assumes nothing.
use Rattle.std.proofs.Common.{sym, ap, ◌∙◌}
use Rattle.std.specs.Int.Count.{count_trailing_zeros, trailing_of_zero}
use Rattle.code.proofs.lowest_bit.Goals as goal

pub returns-then-bits-eq0-clause-number : goal.returns-then-bits-eq0-clause-number
returns-then-bits-eq0-clause-number c = sym (ap (count_trailing_zeros 64) c.if-bits-eq0.true ∙ trailing_of_zero 64)
