use Rattle.events.specs.FieldLaws.{cut_shorter}
use Rattle.script.specs.SessionLaws.{advance_on, advance_end, advance_then, going_none, going_more}
use Rattle.script.proofs.sessions.Progress.take_up.Goals as goal

pub loop-end-init : goal.loop-end-init
loop-end-init c = going_none c.args.self.now c.args.bytes.now c.args.memory.now c.args.out.now c.requires

pub loop-end-preserved : goal.loop-end-preserved
loop-end-preserved c =
    let reply = rw c.bytes.ensures at c.answer-self.ensures.reply in
    going_more c.loop-end.invariant (advance_end c.in-Some.ensures c.add.ensures reply c.clear.ensures) (cut_shorter c.in-Some.ensures)
    c.answer-self.auto.memory

pub returns-clause-advance : goal.returns-clause-advance
returns-clause-advance c =
    advance_then c.loop-end.invariant.advance (advance_on c.loop-end.memory c.loop-end.out c.in_default.ensures c.add-2.ensures)
