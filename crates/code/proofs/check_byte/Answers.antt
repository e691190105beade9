-- `code::check_byte` meets its contract: each fold leaves the remainder as it was, and the last fits a byte.
-- Assumes nothing.
use Rattle.code.proofs.Folds.{shortened, last_small, last_check}
use Rattle.code.proofs.check_byte.Goals as goal

pub overflow_cast-result : goal.overflow_cast-result
overflow_cast-result c =
    let s = shortened c.args.word _ _ _ c.ranges.word.fits c.fold40.ensures c.fold.ensures c.fold-short.ensures in
    record { fits = last_small _ _ _ _ s c.fold-2.ensures c.fold-3.ensures }

pub returns : goal.returns
returns c =
    let s = shortened c.args.word _ _ _ c.ranges.word.fits c.fold40.ensures c.fold.ensures c.fold-short.ensures in
    last_check _ _ _ _ s c.fold-2.ensures c.fold-3.ensures
