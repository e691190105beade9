-- `passes::equal::of_line` meets its contract. Assumes nothing.
use Rattle.std.proofs.Common.{rules, sym, ◌∙◌, eqb-true}
use Rattle.cells.specs.ChipLaws.{count_mask}
use Rattle.passes.specs.Passes.{catch_word}
use Rattle.passes.specs.Scan.{equals_catch_word}
use Rattle.passes.proofs.equal.of_line.Goals as goal

pub returns-then-none : goal.returns-then-none
returns-then-none c = sym (count_mask _ 9 (eqb-true _ 0 (sym c.none.ensures ∙ c.if-none.true)))

pub returns : goal.returns
unfolding catch_word
returns c = c.of_chips.ensures (equals_catch_word c.args.line.now c.args.catch_words.now) (search rules)
