-- `record::booted` meets its contract. Assumes nothing.
use Rattle.std.proofs.Common.{rules}
use Rattle.record.specs.Record.{booted, accepted}
use Rattle.record.proofs.booted.Goals as goal

pub returns : goal.returns
unfolding booted accepted
returns c = search rules
