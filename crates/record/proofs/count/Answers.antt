-- `record::count` meets its contract. Assumes nothing.
use Rattle.std.proofs.Common.{◌≡◌, Bool, ap₂, ℕ, ◌+◌, cond, eqb, eq-eqb, ne_eqb, min, List, get_or, set, sym, ap, ◌∙◌, arith, inl, inr}
use Rattle.std.specs.Int.Count.{ones}
use Rattle.record.specs.Record.{total_limit, counted_by}
use Rattle.record.specs.RecordLaws.{counted_refused, counted_answered, uncounted, counted_start, counted_here, counted_next, counted_all}
use Rattle.record.proofs.count.Goals as goal
use Rattle.record.proofs.count.Goals.{then-i-task, else-i-task}

pub returns-then-refusal-ne0 : goal.returns-then-refusal-ne0
returns-then-refusal-ne0 c =
    let a = c.args in
    elim c.then-refusal-ne0.either [
      | inl refused ↦ sym (counted_refused a.refusal a.task a.flagged a.totals.now refused)
      | inr none ↦ sym (ap (λ (k : ℕ). counted_by a.refusal a.task k a.totals.now) none.1 ∙ uncounted a.refusal a.task a.totals.now (omega (arith, c.fits-totals a.task)))
    ]

pub loop-i-init : goal.loop-i-init
loop-i-init c = counted_start c.args.task _ c.args.totals.now

pub loop-i-preserved : goal.loop-i-preserved
loop-i-preserved c =
    let a = c.args in
    let loop = c.loop-i in
    let kept : get_or loop.totals loop.i 0 ≡ get_or a.totals.now loop.i 0 =
    ap (λ (s : List ℕ). get_or s loop.i 0) loop.invariant ∙ counted_here a.task _ a.totals.now loop.i in
    let more : c.if-i-task.more ≡ cond (eqb a.task loop.i) (ones a.flagged) 0 =
    elim c.if-i-task.branch [
      | then-i-task w ↦ w.more-is ∙ sym (ap (λ (t : Bool). cond t (ones a.flagged) 0) (eq-eqb a.task loop.i (sym w.if-i-task.true)))
      | else-i-task w ↦ w.more-is ∙ sym (ap (λ (t : Bool). cond t (ones a.flagged) 0) (ne_eqb a.task loop.i (λ e. w.if-i-task.false (sym e))))
    ] in
    let total : c.saturating_add.result ≡ min (get_or a.totals.now loop.i 0 + cond (eqb a.task loop.i) (ones a.flagged) 0) total_limit =
    c.saturating_add.ensures ∙ ap₂ (λ (x y : ℕ). min (x + y) total_limit) kept more in
    ap (λ (s : List ℕ). set s loop.i c.saturating_add.result) loop.invariant
    ∙ counted_next a.task (ones a.flagged) a.totals.now loop.i (omega (arith, c.fits-totals loop.i)) total

pub returns : goal.returns
returns c =
    let a = c.args in
    c.loop-i.invariant
    ∙ counted_all a.task _ a.totals.now c.loop-i.i (omega (arith, c.loop-i-test.false, c.requires))
    ∙ sym (counted_answered a.refusal a.task a.flagged a.totals.now c.if-refusal-ne0.false)
