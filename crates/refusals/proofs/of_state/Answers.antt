-- `refusals::of_state` meets its contract. Assumes nothing.
use Rattle.std.proofs.Common.{arith}
use Rattle.std.proofs.lemmas.Grind.{common_steps}
use Rattle.refusals.proofs.TestLaws.{refused_one, passed_one}
use Rattle.refusals.proofs.of_state.Goals as goal

pub returns-in_err-refuse_if : goal.returns-in_err-refuse_if
returns-in_err-refuse_if c = grind (arith, common_steps, refused_one, passed_one)

pub returns-in_err-refuse_if-2 : goal.returns-in_err-refuse_if-2
returns-in_err-refuse_if-2 c = grind (arith, common_steps, refused_one, passed_one)

pub returns : goal.returns
returns c = grind (arith, common_steps, refused_one, passed_one)
