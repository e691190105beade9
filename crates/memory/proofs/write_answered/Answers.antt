-- `memory::write_answered` meets its contract. Assumes nothing.
use Prim.Native.Nat.{ℕ}
use mathlib.Core.Path.{◌≡◌, ap, ◌∙◌}
use mathlib.Core.Bool.{Bool, true, false, cond}
use mathlib.Core.List.{List}
use lib.ListN.{length, get_or}
use Rattle.cells.specs.Chips.{joined, in_mask}
use Rattle.cells.specs.Cells.{chip_at, codeword}
use Rattle.cells.specs.CellLaws.{length_joined, length_codeword, length_chip}
use Rattle.line.specs.Visit.{if_answered}
use Rattle.line.specs.OutcomeLaws.{either_answered}
use Rattle.line.specs.declared.Outcome.{Outcome}
use Rattle.memory.specs.Lines.{line_at}
use Rattle.memory.specs.LineLaws.{length_line_at}
use Rattle.memory.proofs.Parts.{lent, put_back}
use Rattle.memory.proofs.write_answered.Goals as goal

-- the line with the flagged chips written back, if it is answered
abbrev written : Outcome → ℕ → List ℕ → List ℕ → List ℕ
written o flagged words x = if_answered o (joined (λ k. cond (in_mask flagged k) (codeword (get_or words k 0)) (chip_at x k)) 9) x

-- it has as many bytes
length_written : (o : Outcome) (flagged : ℕ) (words x : List ℕ) → length x ≡ 81 → length (written o flagged words x) ≡ 81
length_written o flagged words x size = either_answered (λ (bs : List ℕ). length bs ≡ 81) o (length_joined _ 9 9 (λ k l. nine k (length_chip x k size l) (in_mask flagged k))) size
  where
    nine : (k : ℕ) → length (chip_at x k) ≡ 9 → (b : Bool) → length (cond b (codeword (get_or words k 0)) (chip_at x k)) ≡ 9
    nine k e true = length_codeword (get_or words k 0)
    nine k e false = e

pub returns : goal.returns
returns c =
    let a = c.args in
    let m = a.memory.now in
    let fits = c.requires.size in
    let start = c.start_of.ensures in
    let rest = c.split_at_mut-rest.ensures in
    let part = c.split_at_mut-part.ensures in
    let whole = rw c.unwrap.ensures at c.as_mut_array.ensures.cases in
    put_back m a.line start rest.back fits rest.front part.back
    (c.write_answered.ensures ∙ ap (written a.outcome a.flagged a.places.now.words) (lent m a.line start rest.back part.front whole))
    (length_written a.outcome a.flagged a.places.now.words (line_at m a.line) (length_line_at m a.line fits))
