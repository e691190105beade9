-- `memory::lay` meets its contract. Assumes nothing.
use Rattle.cells.specs.Cells.{line_word}
use Rattle.cells.specs.CellLaws.{length_stored}
use Rattle.memory.proofs.Parts.{put_back}
use Rattle.memory.proofs.lay.Goals as goal

pub returns : goal.returns
returns c =
    let a = c.args in
    let rest = c.split_at_mut-rest.ensures in
    put_back a.memory.now a.line c.start_of.ensures rest.back c.requires rest.front c.split_at_mut-part.ensures.back c.lay_line.ensures
    (length_stored (line_word a.bytes.now))
