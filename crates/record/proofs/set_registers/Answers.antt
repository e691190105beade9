-- `record::set_registers` meets its contract. Assumes nothing.
use Rattle.std.proofs.Common.{Bool, cond, sym, ap, eq-eqb, ne_eqb}
use Rattle.record.proofs.set_registers.Goals as goal

pub returns-then-collisions-ne0 : goal.returns-then-collisions-ne0
returns-then-collisions-ne0 c =
    let a = c.args in
    sym (ap (λ (t : Bool). cond t a.registers.now a.catch_words) (ne_eqb a.collisions 0 c.if-collisions-ne0.true))

pub returns-else-collisions-ne0 : goal.returns-else-collisions-ne0
returns-else-collisions-ne0 c =
    let a = c.args in
    sym (ap (λ (t : Bool). cond t a.registers.now a.catch_words) (eq-eqb a.collisions 0 c.if-collisions-ne0.false))
