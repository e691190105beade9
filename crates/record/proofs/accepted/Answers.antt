-- `record::accepted` meets its contract. Assumes nothing.
use Rattle.record.specs.Record.{accepted}
use Rattle.std.proofs.Common.{rules}
use Rattle.record.proofs.accepted.Goals as goal

pub returns : goal.returns
unfolding accepted
returns c = search rules
