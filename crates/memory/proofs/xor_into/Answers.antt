-- `memory::xor_into` meets its contract. Assumes nothing.
use mathlib.Core.Path.{ap, ◌∙◌}
use mathlib.Core.List.{List}
use Prim.Native.Nat.{ℕ}
use Rattle.words.specs.Bytes.{xor_bytes}
use Rattle.cells.specs.Cells.{chip_at}
use Rattle.cells.specs.CellLaws.{length_with_chip}
use Rattle.memory.specs.Lines.{line_at, faulted}
use Rattle.memory.specs.LineLaws.{length_line_at}
use Rattle.memory.proofs.Parts.{lent, put_back}
use Rattle.memory.proofs.xor_into.Goals as goal

pub returns : goal.returns
unfolding faulted
returns c =
    let a = c.args in
    let m = a.memory.now in
    let x = line_at m a.line in
    let start = c.start_of.ensures in
    let rest = c.split_at_mut-rest.ensures in
    let part = c.split_at_mut-part.ensures in
    let whole = rw c.unwrap.ensures at c.as_mut_array.ensures.cases in
    put_back m a.line start rest.back c.requires.0 rest.front part.back
    (c.xor_into.ensures ∙ ap (λ (y : List ℕ). faulted y a.chip a.pattern.now) (lent m a.line start rest.back part.front whole))
    (length_with_chip x (xor_bytes (chip_at x a.chip) a.pattern.now) a.chip ∙ length_line_at m a.line c.requires.0)
