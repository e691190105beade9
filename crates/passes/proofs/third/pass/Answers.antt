-- `passes::third::pass` meets its contract. Assumes nothing.
use Rattle.std.proofs.Common.{◌≡◌, ◌<◌, ◌%◌, ℕ, sym, ap, ap₂, ◌∙◌, rules}
use Rattle.code.specs.Code.{cell, syndrome_of, mended, mended_word, status_of, is_beyond}
use Rattle.cells.specs.Cells.{cell_at}
use Rattle.cells.proofs.Loops.{pending_turn}
use Rattle.passes.specs.Passes.{catch_word, chip_status}
use Rattle.passes.specs.Syndromes.{syndrome_in}
use Rattle.passes.proofs.SyndromeLaws.{syndrome_in_is}
use Rattle.passes.proofs.Turns.{put_none, put_more, put_all, sent_none, sent_more, sent_all}
use Rattle.passes.proofs.third.pass.Goals as goal
use Rattle.passes.proofs.third.pass.Goals.{In-Some}

-- the chip that has its turn
inside : (c : In-Some) → c.in-Some.k < 9
inside c = (pending_turn c.loop-k.invariant.0.xor.pending c.in-Some.ensures.steps).below

pub loop-k-init : goal.loop-k-init
loop-k-init c = (
  sent_none c.args.line.now c.args.catch_words.now (cc) c.requires.parity,
  (put_none _ _ (cc) (search rules), put_none _ _ (cc) (search rules)),
)

pub of_chip-syndrome-requires : goal.of_chip-syndrome-requires
of_chip-syndrome-requires c = inside (goal.at.of_chip-syndrome-requires c).In-Some

pub word_at-requires : goal.word_at-requires
word_at-requires c = inside (goal.at.word_at-requires c).In-Some

pub check_at-requires : goal.check_at-requires
check_at-requires c = inside (goal.at.check_at-requires c).In-Some

pub mend-sent-requires : goal.mend-sent-requires
unfolding cell_at
mend-sent-requires c =
    c.of_chip-syndrome.ensures
    ∙ ap (λ t. syndrome_in t c.in-Some.k) c.requires.syndromes
    ∙ syndrome_in_is c.args.line.now c.in-Some.k (inside (goal.at.mend-sent-requires c).In-Some)
    ∙ ap₂ (λ (w b : ℕ). syndrome_of (cell w b)) (sym c.word_at.ensures) (sym c.check_at.ensures)

pub bounds-places-k : goal.bounds-places-k
bounds-places-k c = inside (goal.at.bounds-places-k c).In-Some

pub bounds-places-k-in-loop-k : goal.bounds-places-k-in-loop-k
bounds-places-k-in-loop-k c = inside (goal.at.bounds-places-k-in-loop-k c).In-Some

pub bounds-catch_words-k : goal.bounds-catch_words-k
bounds-catch_words-k c = inside (goal.at.bounds-catch_words-k c).In-Some

pub only_if-beyond-requires : goal.only_if-beyond-requires
only_if-beyond-requires c = inside (goal.at.only_if-beyond-requires c).In-Some

pub loop-k-preserved : goal.loop-k-preserved
unfolding catch_word cell_at chip_status
loop-k-preserved c =
    let l = c.loop-k in
    let m = c.args.line.now in
    let turn = pending_turn l.invariant.0.xor.pending c.in-Some.ensures.steps in
    let own : cell c.word_at.result c.check_at.result ≡ cell_at m c.in-Some.k =
    ap₂ cell c.word_at.ensures c.check_at.ensures in
    let word_is = c.mend-sent.ensures.word ∙ ap mended_word own in
    let check_is = c.mend-sent.ensures.check ∙ ap (λ (e : ℕ). mended e % 256) own in
    let status_is = c.mend-sent.ensures.status ∙ ap status_of own in (
      sent_more m c.args.catch_words.now l.invariant.0 turn word_is (c.is_beyond.ensures ∙ ap is_beyond status_is) c.only_if-beyond.ensures,
      (put_more l.invariant.1.0 turn word_is, put_more l.invariant.1.1 turn check_is),
    )

pub returns : goal.returns
returns c =
    let inv = c.loop-k.invariant in
    let none = c.in-None.ensures.steps.0 in
    let sent = sent_all c.args.line.now c.args.catch_words.now inv.0 none in
    record { parity = sent.0; beyond = sent.1; words = put_all inv.1.0 none; checks = put_all inv.1.1 none }
