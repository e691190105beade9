-- Document 01, "The rank": where a line stands in the lent memory; "The calls": what a fault does to a line. m stands for the memory, l for
-- a line's number and k for a chip's.
-- Definitions alone; what holds of them is in `LineLaws`.
use Rattle.std.specs.Prelude.{ℕ, ◌*◌, List}
use Rattle.std.proofs.lemmas.List.Edits.{sets}
use Rattle.words.specs.Bytes.{bytes_from, xor_bytes}
use Rattle.cells.specs.Cells.{line_bytes, chip_at, with_chip}

-- line l's 81 bytes begin at byte 81 × l
unfoldable pub line_at : List ℕ → ℕ → List ℕ
line_at m l = bytes_from line_bytes (line_bytes * l) m

-- the memory with bs in the place of line l's 81 bytes
unfoldable pub with_line : List ℕ → ℕ → List ℕ → List ℕ
with_line m l bs = sets m (line_bytes * l) bs

-- fault: the line with nine bytes p, a pattern, xored into chip k
unfoldable pub faulted : List ℕ → ℕ → List ℕ → List ℕ
faulted bytes k p = with_chip bytes k (xor_bytes (chip_at bytes k) p)
