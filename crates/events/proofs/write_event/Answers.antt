use Rattle.events.specs.EventLaws.{write_by}
use Rattle.events.specs.NumberLaws.{two_hex_small}
use Rattle.events.proofs.write_event.Goals as goal

pub returns-in_err-line : goal.returns-in_err-line
returns-in_err-line c = rw (c.from_residual.ensures, write_by c.args.rest.now, ← c.in_err-line.ensures)

pub returns-in_err-byte : goal.returns-in_err-byte
returns-in_err-byte c =
    rw (c.from_residual-in_err-byte.ensures, write_by c.args.rest.now, ← c.in_ok-line.ensures, ← c.in_err-byte.ensures)

pub overflow_cast-result : goal.overflow_cast-result
overflow_cast-result c = record { fits = two_hex_small c.in_ok-line.field.now c.in_ok-byte.ensures }

pub returns : goal.returns
returns c = rw (write_by c.args.rest.now, ← c.in_ok-line.ensures, ← c.in_ok-byte.ensures)
