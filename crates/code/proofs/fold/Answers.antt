-- `code::fold` meets its contract, by the law of the folds. Assumes nothing.
use Rattle.code.proofs.Folds.{at_one}
use Rattle.code.proofs.fold.Goals as goal

pub returns : goal.returns
returns g c =
    let small = c.requires.small in
    at_one g.row.J g.row.A g.row.B c.requires.sum small.0 small.1 small.2 c.args.v c.ranges.v.fits
