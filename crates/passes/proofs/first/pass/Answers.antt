-- `passes::first::pass` meets its contract. Assumes nothing.
use Rattle.std.proofs.Common.{◌∙◌, ◌<◌, sym, ap₂, bit_or}
use Rattle.cells.proofs.Loops.{pending_turn}
use Rattle.passes.specs.Passes.{catch_word}
use Rattle.passes.proofs.Masks.{candidates_either}
use Rattle.passes.proofs.PassLaws.{sent_held, sent_catch_word}
use Rattle.passes.proofs.Turns.{exchanged_none, exchanged_more, exchanged_all}
use Rattle.passes.proofs.first.pass.Goals as goal
use Rattle.passes.proofs.first.pass.Goals.{In-Some}

-- the chip that has its turn
inside : (c : In-Some) → c.in-Some.k < 9
inside c = (pending_turn c.loop-k.invariant.pending c.in-Some.ensures.steps).below

pub loop-k-init : goal.loop-k-init
loop-k-init c =
    exchanged_none _ _ _ (cc)
    (λ k _ sound. sym (sent_held c.args.line.now c.args.catch_words.now k c.fits-line sound))
    c.parity-parity.ensures

pub word_at-requires : goal.word_at-requires
word_at-requires c = inside (goal.at.word_at-requires c).In-Some

pub bounds-catch_words-k : goal.bounds-catch_words-k
bounds-catch_words-k c = inside (goal.at.bounds-catch_words-k c).In-Some

pub loop-k-preserved : goal.loop-k-preserved
unfolding catch_word
loop-k-preserved c =
    let inv = c.loop-k.invariant in
    let turn = pending_turn inv.pending c.in-Some.ensures.steps in
    exchanged_more inv turn c.word_at.ensures
    (sym (sent_catch_word c.args.line.now c.args.catch_words.now c.in-Some.k (inv.pending.chips c.in-Some.k turn.below turn.member)))

pub returns : goal.returns
returns c =
    record {
      candidates = ap₂ bit_or c.requires c.of_line.ensures ∙ candidates_either c.args.line.now c.args.catch_words.now c.fits-line;
      parity = exchanged_all c.loop-k.invariant c.in-None.ensures.steps.0;
    }
