-- `line::mend_flagged` meets its contract. Assumes nothing.
use Prim.Native.Nat.{◌-◌, ◌^◌}
use native.Mathlib.Omega.{arith}
use lib.Count.{count_trailing_zeros}
use Rattle.cells.specs.MaskLaws.{TakenOff}
use Rattle.line.proofs.Steps.{mended_found, rebuilt_found, beyond_found, lowest_one}
use Rattle.line.proofs.mend_flagged.Goals as goal
use Rattle.line.proofs.mend_flagged.Goals.{After-lowest-k}

-- the one chip beyond mending
one : (c : After-lowest-k)
    → TakenOff c.pass-parity.result.beyond c.lowest-k.result (c.pass-parity.result.beyond - 2 ^ count_trailing_zeros 32 c.pass-parity.result.beyond)
one c = lowest_one _ c.pass-parity.ensures.beyond c.if-count-eq1.true c.lowest-k.ensures

pub returns-then-count-eq0 : goal.returns-then-count-eq0
returns-then-count-eq0 c =
    let a = c.args in
    let asked = c.requires in
    let third = c.pass-parity.ensures in
    let found =
    mended_found a.line.now a.catch_words.now asked.first_two asked.several third.words third.checks third.beyond third.parity c.if-count-eq0.true
    c.must_cancel.ensures in
    record { finding = found.finding; words = found.words; checks = found.checks }

pub bounds-places-k : goal.bounds-places-k
bounds-places-k c = (one (goal.at.bounds-places-k c).After-lowest-k).below

pub put-requires : goal.put-requires
put-requires c = (one (goal.at.put-requires c).After-lowest-k).below

pub returns-then-count-eq1 : goal.returns-then-count-eq1
returns-then-count-eq1 c =
    let a = c.args in
    let asked = c.requires in
    let third = c.pass-parity.ensures in
    let put = c.put.ensures in
    let found =
    rebuilt_found a.line.now a.catch_words.now asked.first_two asked.several third.words third.checks third.beyond third.parity c.if-count-eq1.true
    (one (goal.at.returns-then-count-eq1 c).After-lowest-k) put.words put.checks put.there in
    record { finding = found.finding; words = found.words; checks = found.checks }

pub returns-else-count-eq1 : goal.returns-else-count-eq1
returns-else-count-eq1 c =
    let a = c.args in
    let asked = c.requires in
    let third = c.pass-parity.ensures in
    let found =
    beyond_found a.line.now a.catch_words.now asked.first_two asked.several third.words third.checks third.beyond third.parity (omega arith) in
    record { finding = found.finding; words = found.words; checks = found.checks }
