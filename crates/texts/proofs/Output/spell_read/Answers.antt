use Rattle.texts.specs.Texts.{read_text, decimal_text}
use Rattle.texts.specs.TextLaws.{prints_then}
use Rattle.texts.proofs.Output.spell_read.Goals as goal

pub returns-clause-laid : goal.returns-clause-laid
unfolding read_text decimal_text
returns-clause-laid c =
    prints_then c.put.ensures (prints_then c.put_hex.ensures.laid (prints_then c.put_visit.ensures.laid c.put-2.ensures))
