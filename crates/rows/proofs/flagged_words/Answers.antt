-- `rows::flagged_words` meets its contract. Assumes nothing.
use mathlib.Core.Path.{◌∙◌}
use native.Mathlib.Omega.{arith}
use Rattle.rows.proofs.Counting.{counted_skip, counted_more, all_counted}
use Rattle.rows.proofs.flagged_words.Goals as goal
use Rattle.rows.proofs.flagged_words.Goals.{then-other-line, else-other-line}

pub add-requires : goal.add-requires
add-requires c =
    let inv = c.loop-other.invariant in
    λ k b. omega (arith, inv.few k b, inv.upto, c.requires.2)

pub loop-other-preserved : goal.loop-other-preserved
loop-other-preserved c =
    let inv = c.loop-other.invariant in
    let below = c.loop-other-test.true in
    elim c.if-other-line.branch [
      | then-other-line w ↦ counted_more _ _ _ _ inv below w.if-other-line.true w.flagged.ensures (w.counts-is ∙ w.add.ensures)
      | else-other-line w ↦ counted_skip _ _ _ _ inv below w.if-other-line.false w.counts-is
    ]

pub returns-clause-counts : goal.returns-clause-counts
returns-clause-counts c = all_counted _ _ _ _ c.loop-other.invariant c.loop-other-test.false
