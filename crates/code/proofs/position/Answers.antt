-- `code::position` meets its contract: eight steps and the ninth show the position with this syndrome, or have passed all 72.
-- Assumes nothing.
use Rattle.std.proofs.Common.{refl, lit≤, arith}
use Rattle.std.specs.Prelude.{◌≤◌, ◌<◌}
use Rattle.code.specs.Code.{times_x, remainder_in, remainder, syndrome_of, syndrome_at}
use Rattle.code.proofs.Walk.{side_by_side, power_after, powers_after, found_after, walk_fits, walk_next, walk_found, walk_last, walk_none}
use Rattle.code.proofs.position.Goals as goal

pub loop-i-init : goal.loop-i-init
unfolding powers_after side_by_side power_after found_after syndrome_at syndrome_of remainder remainder_in times_x
loop-i-init c = record { within = lit≤ tt; stands = refl; finds = refl }

pub overflow_add-found : goal.overflow_add-found
overflow_add-found c =
    let inside : c.loop-i.i < 8 = omega (arith, c.loop-i-test.true) in
    record { fits = walk_fits c.ranges.syndrome.fits c.loop-i.invariant inside c.walks_at.ensures }

pub loop-i-preserved : goal.loop-i-preserved
loop-i-preserved c =
    let inside : c.loop-i.i < 8 = omega (arith, c.loop-i-test.true) in
    walk_next c.ranges.syndrome.fits c.loop-i.invariant inside c.walks_at.ensures c.times_x-powers.ensures

pub returns-in-Some : goal.returns-in-Some
returns-in-Some c =
    let past : 8 ≤ c.loop-i.i = omega (arith, c.loop-i-test.false) in
    let first = c.in-Some.ensures in
    walk_found c.ranges.syndrome.fits c.loop-i.invariant past first.number first.within

pub returns-in-Some-lowest_bit : goal.returns-in-Some-lowest_bit
returns-in-Some-lowest_bit c =
    let past : 8 ≤ c.loop-i.i = omega (arith, c.loop-i-test.false) in
    let ninth = c.in-Some-lowest_bit.ensures in
    walk_last c.ranges.syndrome.fits c.loop-i.invariant past c.in_default.ensures.number c.walks_at-2.ensures ninth.number ninth.within

pub returns-in-None : goal.returns-in-None
returns-in-None c =
    let past : 8 ≤ c.loop-i.i = omega (arith, c.loop-i-test.false) in
    walk_none c.ranges.syndrome.fits c.loop-i.invariant past c.in_default.ensures.number c.walks_at-2.ensures c.in-None.ensures.number
