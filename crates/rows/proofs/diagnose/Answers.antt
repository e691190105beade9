-- `rows::diagnose` meets its contract. Assumes nothing.
use mathlib.Core.Path.{ap, subst}
use Prim.Native.Nat.{ℕ, ◌*◌}
use Rattle.cells.specs.Chips.{mask}
use Rattle.line.specs.Blame.{is_blamed}
use Rattle.memory.specs.Lines.{line_at}
use Rattle.rows.specs.Rows.{evidence_of}
use Rattle.rows.specs.Blamed.{IsLowest}
use Rattle.rows.proofs.Diagnosed.{others_are, blamed_made, blamed_below, rebuilt_as}
use Rattle.rows.proofs.diagnose.Goals as goal
use Rattle.rows.proofs.diagnose.Goals.{After-blamed_chip-blamed}

-- the chip that is taken for the blamed one is it, if any is
blamed_is : (c : After-blamed_chip-blamed)
    → IsLowest
    (mask (is_blamed (evidence_of c.args.lines c.args.memory.now c.args.line c.args.catch_words.now) (line_at c.args.memory.now c.args.line) c.args.catch_words.now) 9)
    c.blamed_chip-blamed.result
blamed_is c =
    let a = c.args in
    subst (λ (n : ℕ). IsLowest n c.blamed_chip-blamed.result)
    (blamed_made a.lines a.line a.memory.now a.catch_words.now c.requires.sizes.1 c.first_of-first.ensures c.end_of-end.ensures
    c.flagged_words-counts.ensures.counts c.requires.flagged c.reaching.ensures)
    c.blamed_chip-blamed.ensures

pub rebuild-outcome-requires : goal.rebuild-outcome-requires
rebuild-outcome-requires c =
    let a = c.args in
    blamed_below (evidence_of a.lines a.memory.now a.line a.catch_words.now) (line_at a.memory.now a.line) a.catch_words.now _
    (blamed_is (goal.at.rebuild-outcome-requires c).After-blamed_chip-blamed)

pub returns : goal.returns
returns c =
    let a = c.args in
    let m = a.memory.now in
    let cws = a.catch_words.now in
    let made =
    rebuilt_as (evidence_of a.lines m a.line cws) (line_at m a.line) cws a.xor a.places.now c.requires.xor c.requires.words c.requires.checks _
    (blamed_is (goal.at.returns c).After-blamed_chip-blamed) c.rebuild-outcome.ensures in
    record {
      outcome = made.outcome;
      passes = ap (λ (n : ℕ). 2 * n) (others_are a.lines a.line m cws c.requires.sizes.1 c.first_of-first.ensures c.end_of-end.ensures);
      words = made.words;
      checks = made.checks;
    }
