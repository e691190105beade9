use Rattle.events.specs.EventLaws.{read_by}
use Rattle.events.proofs.read_event.Goals as goal

pub returns-in_err-line : goal.returns-in_err-line
returns-in_err-line c = rw (c.from_residual.ensures, read_by c.args.rest.now, ← c.in_err-line.ensures)

pub returns : goal.returns
returns c = rw (read_by c.args.rest.now, ← c.in_ok-line.ensures)
