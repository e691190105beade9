-- `code::walks_at` meets its contract: the steps act on each byte by itself.
-- Assumes nothing.
use mathlib.Core.Path.{refl}
use Rattle.code.proofs.Side.{same}
use Rattle.code.proofs.Walk.{eight_marked}
use Rattle.code.proofs.walks_at.Goals as goal

pub returns : goal.returns
unfolding same
returns c =
    eight_marked _ _ _ _ _ refl refl refl refl refl c.args.syndrome c.args.powers c.ranges.syndrome.fits c.ranges.powers.fits
