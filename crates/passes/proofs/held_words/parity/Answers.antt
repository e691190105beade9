-- `passes::held_words::parity` meets its contract. Assumes nothing.
use Rattle.std.proofs.Common.{refl, rules}
use Rattle.cells.specs.Chips.{xor_all}
use Rattle.cells.proofs.Loops.{none_yet, xor_more}
use Rattle.passes.proofs.held_words.parity.Goals as goal

pub loop-k-init : goal.loop-k-init
unfolding xor_all
loop-k-init c = none_yet _ 9 refl

pub loop-k-preserved : goal.loop-k-preserved
loop-k-preserved c = xor_more _ c.loop-k.invariant (search rules) c.word_at-parity.ensures
