use Rattle.events.specs.FieldLaws.{cut_at}
use Rattle.events.proofs.places.split_once.Goals as goal

pub returns-in_err-place : goal.returns-in_err-place
returns-in_err-place c = rw c.from_residual.ensures c.in_err-place.ensures

pub returns : goal.returns
returns c = cut_at c.args.byte c.args.bytes.now c.in_ok-place.place c.in_ok-place.ensures.0 c.in_ok-place.ensures.1
