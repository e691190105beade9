-- `rank::rank_patrol` meets its contract. Assumes nothing.
use Rattle.std.proofs.Common.{ℕ, refl, sym, ap, ◌∙◌, arith, rules}
use Rattle.rank.specs.declared.PatrolResult.{PatrolResult}
use Rattle.rank.specs.Calls.{Leaves}
use Rattle.refusals.specs.RefusalLaws.{patrol_passed}
use Rattle.refusals.proofs.TestLaws.{number_of-ne-zero}
use Rattle.rank.specs.CallLaws.{patrol_refused, patrol_accepted}
use Rattle.rank.specs.PatrolLaws.{patrol_done}
use Rattle.rank.proofs.rank_patrol.Goals as goal

pub returns-in-Err : goal.returns-in-Err
returns-in-Err c =
    let a = c.args in
    let e = patrol_refused a.rank a.memory.now a.task a.first a.budget _ c.in-Err.ensures (number_of-ne-zero c.in-Err.refusal) in
    record {
      result = ap (λ (n : ℕ). record { refusal = n; visited = 0; refused = 0; rewritten = 0; rank = a.rank }) c.into.ensures
          ∙ sym (ap (λ (x : Leaves PatrolResult). x.result) e);
      memory = sym (ap (λ (x : Leaves PatrolResult). x.memory) e);
    }

pub overflow_sub-rank : goal.overflow_sub-rank
overflow_sub-rank c =
    let a = c.args in
    let p = patrol_passed a.rank a.memory.now a.task a.first (sym c.in_default.ensures) in
    omega (arith, p.2)

pub sweep-tally-requires : goal.sweep-tally-requires
sweep-tally-requires c =
    let a = c.args in
    let p = patrol_passed a.rank a.memory.now a.task a.first (sym c.in_default.ensures) in (
      p.0.enabled,
      p.0.equal (search rules) (search rules),
      omega (arith, p.0.size),
      p.1,
      omega (arith, p.2, c.allowance-visited.ensures),
      p.0.few,
    )

pub returns : goal.returns
returns c =
    let a = c.args in
    let allowance = c.allowance-visited in
    let sweep = c.sweep-tally in
    let e = patrol_accepted a.rank a.memory.now a.task a.first a.budget _ c.in_default.ensures refl
    ∙ patrol_done a.task a.rank a.memory.now a.first a.budget allowance.result sweep.result _ allowance.ensures
    sweep.ensures.refused sweep.ensures.rewritten sweep.ensures.after in
    record { result = sym (ap (λ (x : Leaves PatrolResult). x.result) e); memory = sym (ap (λ (x : Leaves PatrolResult). x.memory) e) }
