-- `rank::rank_fault` meets its contract. Assumes nothing.
use Rattle.std.proofs.Common.{◌≡◌, ℕ, List, length, refl, sym, ap, ◌∙◌, arith, rules}
use Rattle.memory.specs.Lines.{line_at, with_line, faulted}
use Rattle.rank.specs.declared.Called.{Called}
use Rattle.rank.specs.Calls.{Leaves, fault_by}
use Rattle.refusals.specs.RefusalLaws.{fault_passed}
use Rattle.refusals.proofs.TestLaws.{number_of-ne-zero}
use Rattle.rank.specs.CallLaws.{fault_refused, fault_accepted}
use Rattle.rank.proofs.rank_fault.Goals as goal

pub returns-in-Err : goal.returns-in-Err
returns-in-Err c =
    let a = c.args in
    let e = fault_refused a.rank a.memory.now a.line a.chip a.pattern.now _ c.in-Err.ensures (number_of-ne-zero c.in-Err.refusal) in
    record {
      result = ap (λ (n : ℕ). record { refusal = n; rank = a.rank }) c.into.ensures ∙ sym (ap (λ (x : Leaves Called). x.result) e);
      memory = sym (ap (λ (x : Leaves Called). x.memory) e);
    }

pub unwrap-requires : goal.unwrap-requires
unwrap-requires c =
    let a = c.args in
    let nine : length a.pattern.now ≡ 9 = (fault_passed a.rank a.memory.now a.line a.chip a.pattern.now (sym c.in_default.ensures)).3 in
    c.as_array.ensures.variant.1 nine

pub xor_into-requires : goal.xor_into-requires
xor_into-requires c =
    let a = c.args in
    let p = fault_passed a.rank a.memory.now a.line a.chip a.pattern.now (sym c.in_default.ensures) in
    (omega (arith, p.0.size, p.1), p.2)

pub returns : goal.returns
unfolding fault_by
returns c =
    let a = c.args in
    let e = fault_accepted a.rank a.memory.now a.line a.chip a.pattern.now _ c.in_default.ensures refl in
    let pattern : c.unwrap.result.now ≡ a.pattern.now = search rules in
    record {
      result = sym (ap (λ (x : Leaves Called). x.result) e);
      memory = c.xor_into.ensures
          ∙ ap (λ (p : List ℕ). with_line a.memory.now a.line (faulted (line_at a.memory.now a.line) a.chip p)) pattern
          ∙ sym (ap (λ (x : Leaves Called). x.memory) e);
    }
