use Rattle.texts.specs.Texts.{call_text}
use Rattle.texts.specs.TextLaws.{prints_then}
use Rattle.texts.proofs.Output.spell_call.Goals as goal

pub returns-clause-laid : goal.returns-clause-laid
unfolding call_text
returns-clause-laid c = prints_then c.put.ensures (prints_then c.put_decimal.ensures.laid c.put-2.ensures)
