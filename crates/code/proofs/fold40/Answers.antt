-- `code::fold40` meets its contract, by the law of the folds.
-- Assumes nothing.
use Rattle.code.proofs.Folds.{at40}
use Rattle.code.proofs.fold40.Goals as goal

pub returns : goal.returns
returns c = at40 c.args.word c.ranges.word.fits
