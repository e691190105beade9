-- `record::move_words` meets its contract. Assumes nothing.
use Rattle.std.proofs.Common.{◌≡◌, ℕ, ◌+◌, ◌<◌, ◌≤◌, ◌≢◌, cond, true, false, List, length, get_or, set, sym, ap, ◌∙◌, arith, inl, inr, below_more, get_or-set_other, get_or-set_same, length-set}
use Rattle.cells.specs.Chips.{in_mask}
use Rattle.cells.specs.ChipLaws.{of_chips_ext, of_chips_list}
use Rattle.record.specs.Record.{grown, moved, moved_by}
use Rattle.record.specs.RecordLaws.{moved_refused, moved_answered, unmoved}
use Rattle.record.proofs.move_words.Invariants.{MovedBelow}
use Rattle.record.proofs.move_words.Goals as goal
use Rattle.record.proofs.move_words.Goals.{then-member, else-member}

pub returns-then-refusal-ne0 : goal.returns-then-refusal-ne0
returns-then-refusal-ne0 c =
    let a = c.args in
    elim c.then-refusal-ne0.either [
      | inl refused ↦ sym (moved_refused a.refusal a.collisions a.words.now refused)
      | inr none ↦ sym (ap (λ (k : ℕ). moved_by a.refusal k a.words.now) none.1 ∙ unmoved a.refusal a.words.now c.told-words)
    ]

-- the next word is stored moved
moved_next : {collisions : ℕ} {words now next : List ℕ} {k v : ℕ} → MovedBelow collisions words now k → k < length words → next ≡ set now k v
    → v ≡ cond (in_mask collisions k) (grown (get_or now k 0)) (get_or now k 0) → MovedBelow collisions words next (k + 1)
moved_next {collisions} {words} {now} {next} {k} {v} h l e value =
    let lt : k < length now = omega (arith, h.size) in
    record {
      size = ap length e ∙ length-set now k v ∙ h.size;
      below = below_more _ _ (λ j below. let ne : j ≢ k = omega arith in rw (e, get_or-set_other) (h.below j below))
          (rw (e, get_or-set_same) (value ∙ ap (λ (w : ℕ). cond (in_mask collisions k) (grown w) w) (h.above k (omega arith))));
      above = λ j above. let ne : j ≢ k = omega arith in rw (e, get_or-set_other) (h.above j (omega arith));
    }

pub loop-k-preserved : goal.loop-k-preserved
unfolding grown
loop-k-preserved c =
    let inside : c.loop-k.k < length c.args.words.now = omega (arith, c.told-words) in
    elim c.if-member.branch [
      | then-member w ↦ moved_next c.loop-k.invariant inside w.words-is
          (let collides : in_mask c.args.collisions c.loop-k.k ≡ true = sym c.member.ensures ∙ w.if-member.true in rw collides)
      | else-member w ↦ moved_next c.loop-k.invariant inside w.words-is
          (let stays : in_mask c.args.collisions c.loop-k.k ≡ false = sym c.member.ensures ∙ w.if-member.false in rw stays)
    ]

-- where the loop has passed all nine, they are those of the definition
moved_all : {collisions : ℕ} {words now : List ℕ} {k : ℕ} → MovedBelow collisions words now k → length words ≡ 9 → 9 ≤ k → now ≡ moved collisions words
unfolding moved
moved_all {collisions} {words} {now} {k} h size l =
    sym (of_chips_list now 9 (h.size ∙ size))
    ∙ of_chips_ext (λ j. get_or now j 0) (λ j. cond (in_mask collisions j) (grown (get_or words j 0)) (get_or words j 0)) 9 (λ j below. h.below j (omega arith))

pub returns : goal.returns
returns c =
    let a = c.args in
    moved_all c.loop-k.invariant c.told-words c.loop-k-test.false ∙ sym (moved_answered a.refusal a.collisions a.words.now c.if-refusal-ne0.false)
