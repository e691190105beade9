-- `cells::masks::of_chips` meets its contract. Assumes nothing.
use Rattle.std.proofs.Common.{Bool, refl, ap, ◌∙◌, ◌*◌, ◌^◌, rules}
use Rattle.cells.specs.Chips.{bit, mask}
use Rattle.cells.proofs.Loops.{none_yet, mask_more}
use Rattle.cells.proofs.masks.of_chips.Goals as goal

pub loop-k-init : goal.loop-k-init
unfolding mask
loop-k-init g c = λ p h. none_yet _ 9 refl

pub loop-k-preserved : goal.loop-k-preserved
loop-k-preserved g c =
    λ p h.
    mask_more p (c.loop-k.invariant p h) (search rules)
    (c.only_if-mask.ensures ∙ ap (λ (b : Bool). bit b * 2 ^ c.loop-k.k) (h c.loop-k.k c.test.result c.loop-k-test.true c.test.ensures))
