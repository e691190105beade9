-- `rank::rank_read` meets its contract. Assumes nothing.
use Rattle.std.proofs.Common.{◌≡◌, ℕ, List, refl, sym, ap, ◌∙◌, arith, rules, length}
use Rattle.refusals.specs.Refusals.{read_tests}
use Rattle.rank.specs.Calls.{read_of}
use Rattle.visits.specs.Visits.{LeavesRead, visit_of, read_by}
use Rattle.visits.specs.VisitLaws.{result_made}
use Rattle.refusals.specs.RefusalLaws.{read_passed}
use Rattle.refusals.proofs.TestLaws.{number_of-ne-zero}
use Rattle.rank.specs.CallLaws.{read_refused, read_accepted}
use Rattle.rank.proofs.rank_read.Goals as goal

pub unwrap-bytes-requires : goal.unwrap-bytes-requires
unwrap-bytes-requires c = c.as_mut_array.ensures.variant.1 (read_passed _ _ _ _ _ (sym c.in-Ok.ensures)).3

pub visit_into-visited-requires : goal.visit_into-visited-requires
visit_into-visited-requires c =
    let p = read_passed _ _ _ _ _ (sym c.in-Ok.ensures) in
    (omega (arith, p.0.size), p.2)

pub count-requires : goal.count-requires
count-requires c = (read_passed _ _ _ _ _ (sym c.in-Ok.ensures)).1

pub returns-in-Ok : goal.returns-in-Ok
unfolding read_by visit_of
returns-in-Ok c =
    let a = c.args in
    let p = read_passed a.rank a.memory.now a.task a.line a.buffer.now (sym c.in-Ok.ensures) in
    let e = read_accepted a.rank a.memory.now a.task a.line a.buffer.now _ c.in-Ok.ensures refl in
    let words : length a.rank.catch_words ≡ 9 = search rules in
    let registers : length a.rank.registers ≡ 9 = search rules in
    let bytes : c.unwrap-bytes.result.now ≡ a.buffer.now = search rules in
    let lent = read_accepted a.rank a.memory.now a.task a.line c.unwrap-bytes.result.now _ (c.in-Ok.ensures ∙ ap (read_tests a.rank a.memory.now a.task a.line) (sym bytes)) refl in
    let v = c.visit_into-visited in
    record {
      result = result_made a.task a.rank a.memory.now a.line v.result _ _ _ v.ensures.result
          (p.0.equal registers words) registers v.ensures.catch_words c.set_registers.ensures c.count.ensures
          ∙ sym (ap (λ (x : LeavesRead). x.result) e);
      memory = v.ensures.memory ∙ sym (ap (λ (x : LeavesRead). x.memory) e);
      buffer = v.ensures.buffer
          ∙ sym (ap (λ (x : LeavesRead). x.buffer) lent)
          ∙ ap (λ (b : List ℕ). (read_of a.rank a.memory.now a.task a.line b).buffer) bytes;
    }

pub returns-in-Err : goal.returns-in-Err
returns-in-Err c =
    let a = c.args in
    let e = read_refused a.rank a.memory.now a.task a.line a.buffer.now _ c.in-Err.ensures (number_of-ne-zero c.in-Err.refusal) in
    record {
      result = ap (λ (n : ℕ). record { refusal = n; passes = 0; flagged = 0; collisions = 0; rank = a.rank }) c.into.ensures
          ∙ sym (ap (λ (x : LeavesRead). x.result) e);
      memory = sym (ap (λ (x : LeavesRead). x.memory) e);
      buffer = sym (ap (λ (x : LeavesRead). x.buffer) e);
    }
