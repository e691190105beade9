-- `visits::sweep::sweep` meets its contract. Assumes nothing.
use Rattle.std.proofs.Common.{◌≡◌, ℕ, ◌+◌, ◌-◌, ◌≤◌, ◌<◌, length, get_or, sym, ap, subst, ◌∙◌, arith, rules, w32, Fits}
use Rattle.line.specs.declared.Report.{Report}
use Rattle.record.specs.declared.Rank.{Rank}
use Rattle.record.specs.Record.{total_limit, accepted, counted_by}
use Rattle.record.specs.RecordLaws.{accepted_same}
use Rattle.memory.specs.LineLaws.{length_line_at}
use Rattle.visits.specs.declared.sweep.Counts.{Counts}
use Rattle.visits.specs.Runs.{outs, end}
use Rattle.code.specs.Lists.{up_from}
use Rattle.visits.specs.Visits.{device, visit_of, refused_by, rewritten_by, refused_in, rewritten_in}
use Rattle.visits.specs.SweepLaws.{swept_none, Moves, parts_visited, moves_clean, visit_flags, swept_more, all_refused, all_rewritten_lem, all_ended}
use Rattle.visits.proofs.sweep.sweep.Goals as goal
use Rattle.visits.proofs.sweep.sweep.Goals.{then-not-is_clean, else-not-is_clean}
use Rattle.visits.proofs.sweep.sweep.Invariants.{tally}

pub loop-line-init : goal.loop-line-init
unfolding accepted
loop-line-init c =
    let words : length c.args.rank.catch_words ≡ 9 = search rules in
    let total : (i : ℕ) → get_or c.args.rank.repairs i 0 ≤ total_limit = λ i.
    let fits : Fits w32 (get_or c.args.rank.repairs i 0) = search rules in omega (arith, fits.fits) in
    let start : c.args.first - c.args.first ≡ 0 = omega arith in
    rw start (swept_none _ _ _ _ _ words total)

pub add-requires : goal.add-requires
unfolding accepted
add-requires c =
    let inv = c.loop-line.invariant in
    (omega (arith, inv.few_refused), omega (arith, inv.few_rewritten, visit_flags _ _ _ _ c.visit-report.ensures.report))

pub returns : goal.returns
unfolding accepted
returns c =
    let a = c.args in
    let inv = c.loop-line.invariant in
    let none : a.n ≤ c.loop-line.line - a.first = omega (arith, c.loop-line-test.false) in
    let start = accepted_same a.rank c.requires.0 c.requires.1 in record {
      refused = all_refused inv none ∙ ap (λ (r : Rank). refused_in (outs (visit_of a.task) (device r a.memory.now) (up_from a.first a.n))) start;
      rewritten = all_rewritten_lem inv none ∙ ap (λ (r : Rank). rewritten_in (outs (visit_of a.task) (device r a.memory.now) (up_from a.first a.n))) start;
      after = ap (λ (r : Rank). device r c.loop-line.memory) c.accepted.ensures
          ∙ all_ended inv none
          ∙ ap (λ (r : Rank). end (visit_of a.task) (device r a.memory.now) (up_from a.first a.n)) start;
    }

-- the line is visited and counted, or it is clean and left out
pub loop-line-preserved : goal.loop-line-preserved
unfolding accepted visit_of
loop-line-preserved c =
    let a = c.args in
    let l = c.loop-line in
    let after = c.if-not-is_clean in
    let inv = l.invariant in
    let before_it = tally a.rank.lines l.catch_words l.totals l.counts in
    let after_it = tally a.rank.lines after.catch_words after.totals after.counts in
    let moves : Moves a.task before_it l.memory l.line after_it after.memory =
    elim after.branch [
      | then-not-is_clean w ↦
          let v = w.visit-report.ensures in
          let k = w.add.ensures in
          record {
            refused = ap (λ (k : Counts). k.refused) w.counts-is ∙ k.refused ∙ ap (λ (q : Report). l.counts.refused + refused_by q.outcome) v.report;
            rewritten = ap (λ (k : Counts). k.rewritten) w.counts-is ∙ k.rewritten ∙ ap (λ (q : Report). l.counts.rewritten + rewritten_by q.outcome q.flagged) v.report;
            after = parts_visited a.task a.rank.lines l.line l.catch_words l.totals l.memory v.report (w.catch_words-is ∙ v.catch_words)
                (w.totals-is ∙ w.count.ensures ∙ ap (λ (n : ℕ). counted_by n a.task w.visit-report.result.flagged l.totals) w.refusal-refusal.ensures) (w.memory-is ∙ v.memory);
          }
      | else-not-is_clean w ↦
          moves_clean (length_line_at _ _ (omega (arith, inv.size))) (sym c.is_clean.ensures ∙ w.if-not-is_clean.false) inv.words inv.words (inv.total _)
          (λ i. tally a.rank.lines (w.catch_words-is i) (w.totals-is i) (w.counts-is i)) w.memory-is
    ] in
    let here : l.line ≡ a.first + (l.line - a.first) = omega (arith, l.auto.line) in
    let next : l.line + 1 - a.first ≡ l.line - a.first + 1 = omega (arith, l.auto.line) in
    let below : l.line - a.first < a.n = omega (arith, l.auto.line, c.loop-line-test.true) in
    rw next (swept_more inv below (subst (λ (j : ℕ). Moves a.task before_it l.memory j after_it after.memory) here moves))
