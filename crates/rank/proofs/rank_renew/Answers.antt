-- `rank::rank_renew` meets its contract. Assumes nothing.
use Rattle.std.proofs.Common.{ℕ, refl, sym, ap, ◌∙◌}
use Rattle.record.specs.declared.Rank.{Rank}
use Rattle.rank.specs.Calls.{renew_by}
use Rattle.refusals.specs.RefusalLaws.{renew_passed}
use Rattle.refusals.proofs.TestLaws.{number_of-ne-zero}
use Rattle.rank.specs.CallLaws.{renew_refused, renew_accepted}
use Rattle.rank.proofs.rank_renew.Goals as goal

pub returns-in-Err : goal.returns-in-Err
returns-in-Err c =
    let a = c.args in
    ap (λ (n : ℕ). record { refusal = n; rank = a.rank }) c.into.ensures
    ∙ sym (renew_refused a.rank a.chip a.catch_word _ c.in-Err.ensures (number_of-ne-zero c.in-Err.refusal))

pub renewed-requires : goal.renewed-requires
renewed-requires c = renew_passed c.args.rank c.args.chip (sym c.in_default.ensures)

pub returns : goal.returns
unfolding renew_by
returns c =
    let a = c.args in
    ap (λ (x : Rank). record { refusal = 0; rank = x }) c.renewed.ensures
    ∙ sym (renew_accepted a.rank a.chip a.catch_word _ c.in_default.ensures refl)
