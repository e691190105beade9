-- `line::examine` meets its contract. Assumes nothing.
use mathlib.Core.Path.{◌≡◌, ap, ◌∙◌}
use mathlib.Core.Bool.{not}
use mathlib.Core.List.{List}
use Prim.Native.Nat.{ℕ}
use lib.Dec.{eqb}
use Rattle.cells.specs.Chips.{mask}
use Rattle.passes.specs.Passes.{is_unsound}
use Rattle.passes.specs.declared.syndromes.Syndromes.{Syndromes}
use Rattle.passes.specs.Syndromes.{syndromes_of, syndrome_in}
use Rattle.passes.proofs.SyndromeLaws.{unsound_mask}
use Rattle.line.proofs.Steps.{passes_made, examined_is}
use Rattle.line.proofs.examine.Goals as goal

-- the chips that hold no codeword, out of the syndromes
unsound_is : (m : List ℕ) {s : Syndromes} {n : ℕ} → s ≡ syndromes_of m → n ≡ mask (λ k. not (eqb (syndrome_in s k) 0)) 9 → n ≡ mask (is_unsound m) 9
unsound_is m e q = q ∙ ap (λ s. mask (λ k. not (eqb (syndrome_in s k) 0)) 9) e ∙ unsound_mask m

pub pass-pass_one-requires : goal.pass-pass_one-requires
pass-pass_one-requires c = unsound_is c.args.line.now c.of_line-syndromes.ensures c.unsound_chips-unsound.ensures

pub pass-flagged-requires-clause-unsound : goal.pass-flagged-requires-clause-unsound
pass-flagged-requires-clause-unsound c = unsound_is c.args.line.now c.of_line-syndromes.ensures c.unsound_chips-unsound.ensures

pub returns-clause-examined : goal.returns-clause-examined
returns-clause-examined c =
    let m = c.args.line.now in
    let cws = c.args.catch_words.now in
    let candidates = c.pass-pass_one.ensures.candidates in
    let flagged = c.pass-flagged.ensures in
    examined_is m cws c.resolve-finding.ensures.finding candidates flagged (passes_made m cws candidates flagged c.passes_made-passes.ensures)
