-- `rank::rank_write` meets its contract. Assumes nothing.
use Rattle.std.proofs.Common.{◌≡◌, refl, sym, ap, ◌∙◌, arith, rules, List, ℕ}
use Rattle.cells.specs.Cells.{line_word, stored}
use Rattle.memory.specs.Lines.{with_line}
use Rattle.record.specs.declared.Rank.{Rank}
use Rattle.rank.specs.declared.Called.{Called}
use Rattle.rank.specs.Calls.{Leaves, write_by}
use Rattle.refusals.specs.Refusals.{write_refusal}
use Rattle.refusals.specs.RefusalLaws.{write_passed}
use Rattle.refusals.proofs.TestLaws.{number_of-ne-zero}
use Rattle.rank.specs.CallLaws.{write_refused, write_accepted, write_returned}
use Rattle.rank.proofs.rank_write.Goals as goal
use Rattle.rank.proofs.rank_write.Goals.{in-Ok, in-Err}

pub unwrap-requires : goal.unwrap-requires
unwrap-requires c = c.as_array.ensures.variant.1 (write_passed _ _ _ _ (sym c.in-Ok.ensures)).2

pub lay-requires : goal.lay-requires
lay-requires c =
    let p = write_passed _ _ _ _ (sym c.in-Ok.ensures) in
    omega (arith, p.0.size, p.1)

pub returns-clause-result : goal.returns-clause-result
returns-clause-result c =
    let a = c.args in
    let call = c.match-of_write in
    let number : call.refusal ≡ write_refusal a.rank a.memory.now a.line a.bytes.now =
    elim call.branch [
      | in-Ok w ↦ w.refusal-is ∙ w.in-Ok.ensures
      | in-Err w ↦ w.refusal-is ∙ w.into-refusal.ensures ∙ w.in-Err.ensures
    ] in
    ap (λ (x : Rank). record { refusal = call.refusal; rank = x }) c.kept.ensures
    ∙ write_returned a.rank a.memory.now a.line a.bytes.now call.refusal number

-- the line is laid, or the memory is as it was
pub returns-clause-memory : goal.returns-clause-memory
unfolding write_by
returns-clause-memory c =
    let a = c.args in
    elim c.match-of_write.branch [
      | in-Ok w ↦
          let bytes : w.unwrap.result.now ≡ a.bytes.now = search rules in
          let line = ap (λ (b : List ℕ). with_line a.memory.now a.line (stored (line_word b))) bytes in
          let laid = ap (λ (x : Leaves Called). x.memory) (write_accepted a.rank a.memory.now a.line a.bytes.now _ w.in-Ok.ensures refl) in
          cc
      | in-Err w ↦
          let kept = ap (λ (x : Leaves Called). x.memory) (write_refused a.rank a.memory.now a.line a.bytes.now _ w.in-Err.ensures (number_of-ne-zero w.in-Err.refusal)) in
          cc
    ]
