use Rattle.std.proofs.Common.{sym}
use Rattle.events.specs.EventLaws.{leading_at, leading_none}
use Rattle.events.proofs.numbers.leading_number.Goals as goal

pub returns-in_err-field : goal.returns-in_err-field
returns-in_err-field c = rw c.from_residual.ensures (sym (leading_none c.args.text.now c.in_err-field.ensures))

pub returns-in_err-value : goal.returns-in_err-value
returns-in_err-value c = rw (c.from_residual-in_err-value.ensures, leading_at c.in_ok-field.ensures, ← c.in_err-value.ensures)

pub returns : goal.returns
returns c = rw (leading_at c.in_ok-field.ensures, ← c.in_ok-value.ensures)
