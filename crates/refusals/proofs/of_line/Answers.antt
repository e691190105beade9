-- `refusals::of_line` meets its contract. Assumes nothing.
use Rattle.std.proofs.Common.{◌≡◌, [], ◌∷◌, sym, ◌∙◌, arith, rules}
use Rattle.std.proofs.lemmas.Grind.{common_steps}
use Rattle.refusals.specs.Numbers.{number_of, number_in}
use Rattle.refusals.specs.Refusals.{line_out, first_of, refused1, state_refusals}
use Rattle.refusals.proofs.TestLaws.{refused_first, passed_first}
use Rattle.refusals.proofs.of_line.Goals as goal

pub returns-in_err-of_state : goal.returns-in_err-of_state
returns-in_err-of_state c =
    let a = c.args in
    let passed_on : number_in c.from_residual.result ≡ number_of c.in_err-of_state.field-0.0 = search rules in
    passed_on ∙ sym (refused_first (state_refusals a.rank a.memory.now) (refused1 a.rank a.line ∷ []) _ c.in_err-of_state.ensures)

pub returns : goal.returns
unfolding line_out
returns c =
    let a = c.args in
    let last : number_in c.refuse_if.result ≡ first_of (refused1 a.rank a.line ∷ []) = grind (arith, common_steps) in
    last ∙ sym (passed_first (state_refusals a.rank a.memory.now) (refused1 a.rank a.line ∷ []) c.in_ok-of_state.ensures)
