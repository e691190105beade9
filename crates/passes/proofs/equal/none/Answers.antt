-- `passes::equal::none` meets its contract. Assumes nothing.
use Rattle.std.proofs.Common.{rules, ◌≡◌, eqb, Bool, true, false, List, ℕ, ◌<◌, get_or, sym, arith, eq-eqb, ne_eqb}
use Rattle.std.specs.Prelude.{MatchBool}
use Rattle.std.proofs.iter.runs.Sources.{ranges}
use Rattle.cells.specs.Cells.{word_at}
use Rattle.cells.specs.Chips.{count}
use Rattle.cells.specs.ChipLaws.{count_zero, count_some}
use Rattle.passes.specs.Passes.{catch_word}
use Rattle.passes.specs.Scan.{equals_catch_word}
use Rattle.passes.proofs.equal.none.Goals as goal

none_is : (m cws : List ℕ) (b : Bool)
    → MatchBool b ((k : ℕ) → k < 9 → word_at m k ≡ get_or cws k 0 → ⊥) ((k : ℕ) × (k < 9) × (word_at m k ≡ get_or cws k 0))
    → b ≡ eqb (count (equals_catch_word m cws) 9) 0
unfolding catch_word
none_is m cws true h = sym (eq-eqb _ 0 (count_zero _ 9 (λ k l. ne_eqb _ _ (h k l))))
none_is m cws false h = sym (ne_eqb _ 0 (λ e. omega (arith, e, count_some (equals_catch_word m cws) 9 h.0 h.1 (eq-eqb _ _ h.2))))

pub returns : goal.returns
returns c = none_is c.args.line.now c.args.catch_words.now _ (search (rules, ranges))
