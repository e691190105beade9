-- `record::renewed` meets its contract. Assumes nothing.
use Rattle.record.specs.Record.{renewed}
use Rattle.std.proofs.Common.{rules}
use Rattle.record.proofs.renewed.Goals as goal

pub returns : goal.returns
unfolding renewed
returns c = search rules
