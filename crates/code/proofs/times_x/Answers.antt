-- `code::times_x` meets its contract: the steps act on each byte by itself, and antt computes a test of each byte.
-- Assumes nothing.
use mathlib.Core.Path.{refl}
use lib.Dec.{lit<}
use Rattle.code.specs.Code.{times_x}
use Rattle.code.proofs.Side.{same}
use Rattle.code.proofs.Walk.{eight_times}
use Rattle.code.proofs.times_x.Goals as goal

pub returns : goal.returns
unfolding same times_x
returns c = eight_times _ _ _ refl refl (lit< tt) tt c.args.powers c.ranges.powers.fits
