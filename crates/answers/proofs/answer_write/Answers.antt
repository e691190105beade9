use Rattle.answers.specs.AnswerLaws.{call_replies}
use Rattle.answers.specs.SmallLaws.{write_small}
use Rattle.std.proofs.Common.{arith}
use Rattle.answers.proofs.answer_write.Goals as goal

pub spell_call-requires : goal.spell_call-requires
spell_call-requires c = (c.requires, omega (arith, write_small _ _ _ _ c.rank_write-called.ensures.result))

pub returns-clause-reply : goal.returns-clause-reply
returns-clause-reply c =
    call_replies 119 c.rank_write-called.ensures.result c.rank_write-called.ensures.memory c.spell_call.ensures.laid
