-- `refusals::of_read` meets its contract. Assumes nothing.
use Rattle.std.proofs.Common.{◌≡◌, [], ◌∷◌, sym, ◌∙◌, arith, rules}
use Rattle.std.proofs.lemmas.Grind.{common_steps}
use Rattle.refusals.specs.Numbers.{number_of, number_in}
use Rattle.refusals.specs.Refusals.{first_of, refused2, visit_refusals, patrol_refusal, read_tests}
use Rattle.refusals.proofs.TestLaws.{refused_first, passed_first}
use Rattle.refusals.proofs.of_read.Goals as goal

pub returns-in_err-of_patrol : goal.returns-in_err-of_patrol
unfolding patrol_refusal read_tests
returns-in_err-of_patrol c =
    let a = c.args in
    let passed_on : number_in c.from_residual.result ≡ number_of c.in_err-of_patrol.field-0.0 = search rules in
    passed_on ∙ sym (refused_first (visit_refusals a.rank a.memory.now a.task a.line) (refused2 a.buffer.now ∷ []) _ c.in_err-of_patrol.ensures)

pub returns : goal.returns
unfolding patrol_refusal read_tests
returns c =
    let a = c.args in
    let last : number_in c.refuse_if.result ≡ first_of (refused2 a.buffer.now ∷ []) = grind (arith, common_steps) in
    last ∙ sym (passed_first (visit_refusals a.rank a.memory.now a.task a.line) (refused2 a.buffer.now ∷ []) c.in_ok-of_patrol.ensures)
