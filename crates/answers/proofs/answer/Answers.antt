use Rattle.std.proofs.Common.{refl, ap, List, ℕ}
use Rattle.rank.specs.Calls.{fault_of}
use Rattle.answers.specs.Answers.{call_reply, reply_by}
use Rattle.answers.specs.AnswerLaws.{replies_as, event_replies}
use Rattle.answers.proofs.answer.Goals as goal

pub returns-in-Some-Write-clause-reply : goal.returns-in-Some-Write-clause-reply
unfolding reply_by
returns-in-Some-Write-clause-reply c =
    let x = c.args in
    let e = c.in-Some-Write in
    event_replies x.line.now x.rank x.memory.now (rw e.field-0-is at e.ensures) c.answer_write.ensures.reply

pub returns-in-Some-Read-clause-reply : goal.returns-in-Some-Read-clause-reply
unfolding reply_by
returns-in-Some-Read-clause-reply c =
    let x = c.args in
    let e = c.in-Some-Read in
    event_replies x.line.now x.rank x.memory.now (rw e.field-0-is at e.ensures) c.answer_read.ensures.reply

pub returns-in-Some-Fault-clause-reply : goal.returns-in-Some-Fault-clause-reply
unfolding reply_by
returns-in-Some-Fault-clause-reply c =
    let x = c.args in
    let e = c.in-Some-Fault in
    event_replies x.line.now x.rank x.memory.now (rw e.field-0-is at e.ensures)
    (replies_as (ap (λ (p : List ℕ). call_reply 102 (fault_of x.rank x.memory.now e.line e.chip p)) c.pattern.ensures) c.answer_fault.ensures.reply)

pub returns-in-None-clause-reply : goal.returns-in-None-clause-reply
unfolding reply_by
returns-in-None-clause-reply c =
    let x = c.args in
    event_replies x.line.now x.rank x.memory.now c.in-None.ensures
    (record { record_is = refl; memory_is = refl; output_is = c.spell_unknown.ensures.laid })
