-- `lanes::check_bytes` meets its contract. Assumes nothing.
use mathlib.Core.Path.{ap₂, ◌∙◌}
use Prim.Native.Nat.{ℕ}
use Rattle.lanes.specs.Lanes.{fold_quarters, last_folds, all_folds}
use Rattle.lanes.proofs.LaneChecks.{all_checks}
use Rattle.lanes.proofs.check_bytes.Goals as goal

pub returns : goal.returns
unfolding all_folds
returns c =
    let p = c.halves-p.ensures in
    let q = c.halves-q.ensures in
    let x = c.args in
    let fits = c.ranges in
    let last : ℕ → ℕ → ℕ = λ u v. last_folds (fold_quarters u v) in record {
      even = c.quarters.ensures.even ∙ ap₂ last p.even q.even
          ∙ all_checks x.a x.c x.e x.g fits.a.fits fits.c.fits fits.e.fits fits.g.fits;
      odd = c.quarters.ensures.odd ∙ ap₂ last p.odd q.odd
          ∙ all_checks x.b x.d x.f x.h fits.b.fits fits.d.fits fits.f.fits fits.h.fits;
    }
