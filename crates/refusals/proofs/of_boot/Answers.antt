-- `refusals::of_boot` meets its contract. Assumes nothing.
use Rattle.std.proofs.Common.{arith}
use Rattle.std.proofs.lemmas.Grind.{common_steps}
use Rattle.refusals.specs.Refusals.{boot_refusal, catch_words_out}
use Rattle.refusals.proofs.TestLaws.{refused_one, passed_one}
use Rattle.refusals.proofs.of_boot.Goals as goal

pub returns-in_err-refuse_if : goal.returns-in_err-refuse_if
unfolding boot_refusal catch_words_out
returns-in_err-refuse_if c = grind (arith, common_steps, refused_one, passed_one)

pub returns : goal.returns
unfolding boot_refusal catch_words_out
returns c = grind (arith, common_steps, refused_one, passed_one)
