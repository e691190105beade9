-- `passes::first_two::flagged` meets its contract. Assumes nothing.
use Rattle.std.proofs.Common.{◌≡◌, sym, ap, ◌∙◌, not, List, ℕ, eqb}
use Rattle.cells.specs.Chips.{mask}
use Rattle.passes.specs.Passes.{is_flagged}
use Rattle.passes.specs.declared.syndromes.Syndromes.{Syndromes}
use Rattle.passes.specs.Syndromes.{syndromes_of, syndrome_in}
use Rattle.passes.proofs.SyndromeLaws.{unsound_mask, zero_mask}
use Rattle.passes.proofs.PassLaws.{flagged_mask_lem}
use Rattle.passes.proofs.first_two.flagged.Goals as goal

-- the chips whose syndrome is not zero are the flagged ones
flagged_is : (m cws : List ℕ) {s : Syndromes} → s ≡ syndromes_of m → mask (λ k. not (eqb (syndrome_in s k) 0)) 9 ≡ mask (is_flagged m cws) 9
flagged_is m cws e = ap (λ (s : Syndromes). mask (λ k. not (eqb (syndrome_in s k) 0)) 9) e ∙ unsound_mask m ∙ sym (flagged_mask_lem m cws)

pub returns-then-are_zero : goal.returns-then-are_zero
returns-then-are_zero c =
    let a = c.args in
    sym (zero_mask _ (sym c.are_zero.ensures ∙ c.if-are_zero.true)) ∙ flagged_is a.line.now a.catch_words.now c.of_line-syndromes.ensures

pub returns : goal.returns
returns c =
    let a = c.args in
    c.unsound_chips.ensures ∙ flagged_is a.line.now a.catch_words.now c.of_line-syndromes.ensures
