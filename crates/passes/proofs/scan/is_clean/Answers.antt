-- `passes::scan::is_clean` meets its contract. Assumes nothing.
use Rattle.std.proofs.Common.{◌≡◌, ◌∙◌, ℕ, sym, ap₂, lit<, bit_xor, eq-eqb, eqb-true}
use Rattle.std.specs.Cmp.{both_ways}
use Rattle.std.proofs.lemmas.Bool.{and_parts, and_from, eqb-false, false_from_ne_true}
use Rattle.cells.specs.Cells.{word_at, check_at}
use Rattle.cells.specs.Chips.{xor_all}
use Rattle.cells.specs.Checks.{word_every, xor_lanes}
use Rattle.cells.specs.CheckLaws.{across_xor}
use Rattle.passes.proofs.ScanLaws.{check_fits, eight_made, eight_read, clean_made, clean_read}
use Rattle.passes.proofs.scan.is_clean.Goals as goal
use Rattle.passes.proofs.scan.is_clean.Goals.{After-check_at, then-parity-ne0-via-then-parity-ne0, then-parity-ne0-via-else-parity-ne0+then-not-none}

pub returns-then-parity-ne0 : goal.returns-then-parity-ne0
returns-then-parity-ne0 c =
    let clean = clean_read c.args.line.now c.args.catch_words.now c.fits-line in
    elim c.then-parity-ne0.branch [
      | then-parity-ne0-via-then-parity-ne0 w ↦ sym (false_from_ne_true _ (λ t. w.if-parity-ne0.true (c.parity.ensures ∙ (clean t).words)))
      | then-parity-ne0-via-else-parity-ne0+then-not-none w ↦ sym (false_from_ne_true _ (λ t. eqb-false _ 0 (sym w.none.ensures ∙ w.if-not-none.true) (clean t).none))
    ]

-- the xor of the nine check bytes
checks_is : (c : After-check_at) → bit_xor c.across.result c.check_at.result ≡ xor_all (check_at c.args.line.now) 9
unfolding xor_all
checks_is c =
    let m = c.args.line.now in
    ap₂ bit_xor
    (c.across.ensures ∙ ap₂ (λ (e o : ℕ). xor_lanes (bit_xor e o)) c.held-held.ensures.even c.held-held.ensures.odd
    ∙ across_xor (check_at m) (check_fits m c.fits-line))
    c.check_at.ensures

pub returns-then-across-check_at-ne0 : goal.returns-then-across-check_at-ne0
returns-then-across-check_at-ne0 c =
    let at = (goal.at.returns-then-across-check_at-ne0 c).After-check_at in
    sym (false_from_ne_true _ (λ t. c.if-across-check_at-ne0.true (checks_is at ∙ (clean_read c.args.line.now c.args.catch_words.now c.fits-line t).checks)))

pub returns : goal.returns
unfolding word_at word_every
returns c =
    let m = c.args.line.now in
    let asked = c.of_eight.ensures in
    let held = c.held-held.ensures in
    c.eq.ensures
    ∙ both_ways _ _
    (λ t.
    clean_made m c.args.catch_words.now c.fits-line
    (record {
      words = sym c.parity.ensures ∙ c.if-parity-ne0.false;
      none = eqb-true _ 0 (sym c.none.ensures ∙ c.if-not-none.false);
      checks = sym (checks_is (goal.at.returns c).After-check_at) ∙ c.if-across-check_at-ne0.false;
      eight = eight_made m c.fits-line
          (sym asked.even ∙ eqb-true _ _ (and_parts _ _ t).0 ∙ held.even)
          (sym asked.odd ∙ eqb-true _ _ (and_parts _ _ t).1 ∙ held.odd);
    }))
    (λ t.
    let clean = clean_read m c.args.catch_words.now c.fits-line t in
    and_from _ _
    (eq-eqb _ _ (asked.even ∙ eight_read m c.fits-line 0 (lit< tt) clean.eight ∙ sym held.even))
    (eq-eqb _ _ (asked.odd ∙ eight_read m c.fits-line 1 (lit< tt) clean.eight ∙ sym held.odd)))
