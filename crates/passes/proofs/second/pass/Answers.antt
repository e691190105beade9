-- `passes::second::pass` meets its contract. Assumes nothing.
use Rattle.std.proofs.Common.{ap₂, ◌∙◌, bit_and}
use Rattle.passes.proofs.Masks.{flagged_unsound}
use Rattle.passes.proofs.second.pass.Goals as goal

pub returns : goal.returns
returns c = ap₂ bit_and c.requires.candidates c.requires.unsound ∙ flagged_unsound c.args.line.now c.args.catch_words.now
