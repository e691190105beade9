-- `rank::rank_boot` meets its contract. Assumes nothing.
use Rattle.std.proofs.Common.{◌≡◌, ℕ, ◌/◌, refl, sym, ap, ap₂, ◌∙◌, arith, length}
use Rattle.std.proofs.lemmas.List.{length-replicate}
use Rattle.rank.specs.declared.Called.{Called}
use Rattle.record.specs.declared.Rank.{Rank}
use Rattle.record.specs.Record.{booted}
use Rattle.rank.specs.Calls.{Leaves, boot_by}
use Rattle.refusals.specs.RefusalLaws.{boot_passed}
use Rattle.refusals.proofs.TestLaws.{number_of-ne-zero}
use Rattle.rank.specs.CallLaws.{boot_refused, boot_accepted}
use Rattle.rank.proofs.rank_boot.Goals as goal

pub returns-in-Err : goal.returns-in-Err
returns-in-Err c =
    let a = c.args in
    let e = boot_refused a.memory.now a.catch_words.now _ c.in-Err.ensures (number_of-ne-zero c.in-Err.refusal) in
    record {
      result = ap₂ (λ (n : ℕ) (x : Rank). record { refusal = n; rank = x }) c.into.ensures c.fresh.ensures ∙ sym (ap (λ (x : Leaves Called). x.result) e);
      memory = sym (ap (λ (x : Leaves Called). x.memory) e);
    }

pub booted-requires : goal.booted-requires
booted-requires c =
    let a = c.args in
    let p = boot_passed a.memory.now a.catch_words.now (sym c.in_default.ensures) in
    let kept : length c.clear.new.memory ≡ length a.memory.now = ap length c.clear.ensures ∙ length-replicate (length a.memory.now) 0 in
    (omega (arith, kept, p.few), p.nine)

pub returns : goal.returns
unfolding boot_by
returns c =
    let a = c.args in
    let e = boot_accepted a.memory.now a.catch_words.now _ c.in_default.ensures refl in
    let kept : length c.clear.new.memory ≡ length a.memory.now = ap length c.clear.ensures ∙ length-replicate (length a.memory.now) 0 in
    record {
      result = ap (λ (x : Rank). record { refusal = 0; rank = x }) (c.booted.ensures ∙ ap (λ (n : ℕ). booted (n / 81) a.catch_words.now) kept)
          ∙ sym (ap (λ (x : Leaves Called). x.result) e);
      memory = c.clear.ensures ∙ sym (ap (λ (x : Leaves Called). x.memory) e);
    }
