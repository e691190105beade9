-- `line::resolve` meets its contract. Assumes nothing.
use Prim.Native.Nat.{◌-◌, ◌^◌}
use lib.Count.{count_trailing_zeros}
use Rattle.cells.specs.MaskLaws.{TakenOff}
use Rattle.passes.specs.Passes.{catch_word}
use Rattle.line.proofs.Steps.{flagged_mask, none_found, one_found, lowest_one}
use Rattle.line.proofs.resolve.Goals as goal
use Rattle.line.proofs.resolve.Goals.{After-lowest-k}

-- the one flagged chip
one : (c : After-lowest-k)
    → TakenOff c.args.first_two.flagged c.lowest-k.result (c.args.first_two.flagged - 2 ^ count_trailing_zeros 32 c.args.first_two.flagged)
one c = lowest_one _ (flagged_mask c.args.line.now c.args.catch_words.now c.requires) c.if-flags-eq1.true c.lowest-k.ensures

pub returns-then-flags-eq0 : goal.returns-then-flags-eq0
returns-then-flags-eq0 c =
    let a = c.args in
    let found =
    none_found a.line.now a.catch_words.now c.requires c.if-flags-eq0.true c.must_cancel.ensures a.places.now.words a.places.now.checks in
    record { finding = found.finding; words = found.words; checks = found.checks }

pub bounds-catch_words-k : goal.bounds-catch_words-k
bounds-catch_words-k c = (one (goal.at.bounds-catch_words-k c).After-lowest-k).below

pub put-requires : goal.put-requires
put-requires c = (one (goal.at.put-requires c).After-lowest-k).below

pub returns-then-flags-eq1 : goal.returns-then-flags-eq1
unfolding catch_word
returns-then-flags-eq1 c =
    let a = c.args in
    let put = c.put.ensures in
    let found =
    one_found a.line.now a.catch_words.now c.requires c.if-flags-eq1.true a.places.now.words a.places.now.checks
    (one (goal.at.returns-then-flags-eq1 c).After-lowest-k) put.words put.checks put.there in
    record { finding = found.finding; words = found.words; checks = found.checks }
