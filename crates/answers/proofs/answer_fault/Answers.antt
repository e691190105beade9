use Rattle.answers.specs.AnswerLaws.{call_replies}
use Rattle.answers.specs.SmallLaws.{fault_small}
use Rattle.std.proofs.Common.{arith}
use Rattle.answers.proofs.answer_fault.Goals as goal

pub spell_call-requires : goal.spell_call-requires
spell_call-requires c = (c.requires, omega (arith, fault_small _ _ _ _ _ c.rank_fault-called.ensures.result))

pub returns-clause-reply : goal.returns-clause-reply
returns-clause-reply c =
    call_replies 102 c.rank_fault-called.ensures.result c.rank_fault-called.ensures.memory c.spell_call.ensures.laid
