use Rattle.std.proofs.Common.{◌≡◌, sym, ◌∙◌, ap, length, eq-eqb, eqb-true, true, false}
use Rattle.std.proofs.lemmas.List.{nil_from_length}
use Rattle.script.specs.SessionLaws.{finish_none, finish_line}
use Rattle.script.proofs.sessions.Progress.finish.Goals as goal

pub returns-then-not-is_empty : goal.returns-then-not-is_empty
returns-then-not-is_empty c =
    finish_line
    (λ e.
    let none : false ≡ true = c.if-not-is_empty.ensures ∙ eq-eqb (length c.bytes-line.result.now) 0 (ap length (c.bytes-line.ensures ∙ e)) in
    cc)
    (rw c.bytes-line.ensures at c.answer.ensures.reply)

pub returns-else-not-is_empty : goal.returns-else-not-is_empty
returns-else-not-is_empty c =
    finish_none c.args.memory.now c.args.out.now
    (sym c.bytes-line.ensures ∙ nil_from_length c.bytes-line.result.now (eqb-true _ 0 (sym c.if-not-is_empty.ensures)))
