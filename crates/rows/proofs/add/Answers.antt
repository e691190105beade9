-- `rows::add` meets its contract. Assumes nothing.
use Rattle.std.proofs.Common.{◌≡◌, ℕ, ◌+◌, ◌≤◌, List, length, get_or, sym, ap, ◌∙◌, add-zero, arith}
use Rattle.cells.specs.Chips.{of_chips, bit, in_mask}
use Rattle.cells.specs.ChipLaws.{of_chips_ext, of_chips_list}
use Rattle.cells.specs.MaskLaws.{no_member}
use Rattle.rows.proofs.add.Invariants.{AddedBelow}
use Rattle.rows.proofs.add.Goals as goal

-- a mask of no chip counts none
none_added : (counts : List ℕ) (flagged : ℕ) → length counts ≡ 9 → flagged ≡ 0 → counts ≡ of_chips (λ k. get_or counts k 0 + bit (in_mask flagged k)) 9
none_added counts flagged nine none =
    sym (of_chips_list counts 9 nine)
    ∙ of_chips_ext _ _ 9
    (λ k l. sym (ap (λ b. get_or counts k 0 + bit b) (ap (λ (n : ℕ). in_mask n k) none ∙ no_member k l) ∙ add-zero (get_or counts k 0)))

pub returns-then-flagged-eq0 : goal.returns-then-flagged-eq0
returns-then-flagged-eq0 c = none_added c.args.counts.now c.args.flagged c.told-counts c.if-flagged-eq0.true

-- where the loop has passed all nine, each chip of the mask is counted
all_added : {flagged k : ℕ} {counts now : List ℕ} → AddedBelow flagged counts now k → length counts ≡ 9 → 9 ≤ k
    → now ≡ of_chips (λ j. get_or counts j 0 + bit (in_mask flagged j)) 9
all_added {flagged} {k} {counts} {now} h nine l =
    sym (of_chips_list now 9 (h.size ∙ nine))
    ∙ of_chips_ext (λ j. get_or now j 0) (λ j. get_or counts j 0 + bit (in_mask flagged j)) 9 (λ j below. h.below j (omega arith))

pub returns : goal.returns
returns c = all_added c.loop-k.invariant c.told-counts c.loop-k-test.false
