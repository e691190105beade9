-- `refusals::of_patrol` meets its contract. Assumes nothing.
use Rattle.std.proofs.Common.{◌≡◌, [], ◌∷◌, sym, ◌∙◌, arith, rules}
use Rattle.std.proofs.lemmas.Grind.{common_steps}
use Rattle.refusals.specs.Numbers.{number_of, number_in}
use Rattle.refusals.specs.Refusals.{first_of, refused1, refused31, state_refusals, line_out, task_out, patrol_refusal}
use Rattle.refusals.proofs.TestLaws.{refused_one, passed_one, refused_first, passed_first}
use Rattle.refusals.proofs.of_patrol.Goals as goal

pub returns-in_err-of_state : goal.returns-in_err-of_state
unfolding patrol_refusal
returns-in_err-of_state c =
    let a = c.args in
    let passed_on : number_in c.from_residual.result ≡ number_of c.in_err-of_state.field-0.0 = search rules in
    passed_on ∙ sym (refused_first (state_refusals a.rank a.memory.now) (refused31 a.task ∷ refused1 a.rank a.first ∷ []) _ c.in_err-of_state.ensures)

pub returns-in_err-refuse_if : goal.returns-in_err-refuse_if
unfolding patrol_refusal task_out
returns-in_err-refuse_if c =
    let a = c.args in
    let task : number_in c.from_residual-in_err-refuse_if.result ≡ first_of (refused31 a.task ∷ refused1 a.rank a.first ∷ []) =
    grind (arith, common_steps, refused_one, passed_one) in
    task ∙ sym (passed_first (state_refusals a.rank a.memory.now) (refused31 a.task ∷ refused1 a.rank a.first ∷ []) c.in_ok-of_state.ensures)

pub returns : goal.returns
unfolding patrol_refusal task_out line_out
returns c =
    let a = c.args in
    let last : number_in c.refuse_if-2.result ≡ first_of (refused31 a.task ∷ refused1 a.rank a.first ∷ []) =
    grind (arith, common_steps, refused_one, passed_one) in
    last ∙ sym (passed_first (state_refusals a.rank a.memory.now) (refused31 a.task ∷ refused1 a.rank a.first ∷ []) c.in_ok-of_state.ensures)
