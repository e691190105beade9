-- `refusals::of_fault` meets its contract. Assumes nothing.
use Rattle.std.proofs.Common.{◌≡◌, [], ◌∷◌, sym, ◌∙◌, arith, rules}
use Rattle.std.proofs.lemmas.Grind.{common_steps}
use Rattle.refusals.specs.Numbers.{number_of, number_in}
use Rattle.refusals.specs.Refusals.{first_of, refused3, refused4, line_refusals, pattern_out, fault_refusal}
use Rattle.refusals.proofs.TestLaws.{refused_one, passed_one, refused_first, passed_first}
use Rattle.refusals.proofs.of_fault.Goals as goal

pub returns-in_err-of_line : goal.returns-in_err-of_line
unfolding fault_refusal
returns-in_err-of_line c =
    let a = c.args in
    let passed_on : number_in c.from_residual.result ≡ number_of c.in_err-of_line.field-0.0 = search rules in
    passed_on ∙ sym (refused_first (line_refusals a.rank a.memory.now a.line) (refused3 a.chip ∷ refused4 a.pattern.now ∷ []) _ c.in_err-of_line.ensures)

pub returns-in_err-refuse_if : goal.returns-in_err-refuse_if
unfolding fault_refusal
returns-in_err-refuse_if c =
    let a = c.args in
    let chip : number_in c.from_residual-in_err-refuse_if.result ≡ first_of (refused3 a.chip ∷ refused4 a.pattern.now ∷ []) =
    grind (arith, common_steps, refused_one, passed_one) in
    chip ∙ sym (passed_first (line_refusals a.rank a.memory.now a.line) (refused3 a.chip ∷ refused4 a.pattern.now ∷ []) c.in_ok-of_line.ensures)

pub returns : goal.returns
unfolding fault_refusal pattern_out
returns c =
    let a = c.args in
    let last : number_in c.refuse_if-2.result ≡ first_of (refused3 a.chip ∷ refused4 a.pattern.now ∷ []) =
    grind (arith, common_steps, refused_one, passed_one) in
    last ∙ sym (passed_first (line_refusals a.rank a.memory.now a.line) (refused3 a.chip ∷ refused4 a.pattern.now ∷ []) c.in_ok-of_line.ensures)
