use Rattle.texts.specs.Texts.{visit_text}
use Rattle.texts.specs.TextLaws.{prints_then}
use Rattle.texts.proofs.Output.put_visit.Goals as goal

pub returns-clause-laid : goal.returns-clause-laid
unfolding visit_text
returns-clause-laid c = prints_then c.put_decimal.ensures.laid (prints_then c.put_hex.ensures.laid c.put_hex-2.ensures.laid)
