-- `record::Rank::fresh` meets its contract. Assumes nothing.
use Rattle.record.specs.Record.{fresh}
use Rattle.std.proofs.Common.{rules}
use Rattle.record.proofs.Rank.fresh.Goals as goal

pub returns : goal.returns
unfolding fresh
returns c = search rules
