-- Document 02, Req 04: the row of a line, and what is counted over its other lines. m stands for the lent memory, n for how many lines it has,
-- l for the wanted line's number and k for a chip's.
-- Definitions alone; what holds of them is in `RowLaws`.
use Rattle.std.specs.Prelude.{ℕ, ◌-◌, ◌*◌, ◌/◌, min, List, length}
use Rattle.code.specs.Lists.{up_from, without, sum_of}
use Rattle.cells.specs.Chips.{bit}
use Rattle.passes.specs.Passes.{is_flagged}
use Rattle.line.specs.declared.Report.{Report}
use Rattle.line.specs.Blame.{Evidence}
use Rattle.line.specs.Visit.{word_of, bytes_after, report_of}
use Rattle.memory.specs.Lines.{line_at}

-- a row, document 02's term, is 128 lines from a multiple of 128
abbrev pub row_lines : ℕ
row_lines = 128

unfoldable pub row_first : ℕ → ℕ
row_first l = row_lines * (l / row_lines)

-- the last may be shorter
unfoldable pub row_size : ℕ → ℕ → ℕ
row_size n l = min row_lines (n - row_first l)

-- the other lines of the row of line l
unfoldable pub other_lines : ℕ → ℕ → List ℕ
other_lines n l = without l (up_from (row_first l) (row_size n l))

-- every other line gets passes one and two with the visit's catch-words, and flagged words are counted for each chip
unfoldable pub evidence_of : ℕ → List ℕ → ℕ → List ℕ → Evidence
evidence_of n m l cws =
    record {
      others = length (other_lines n l);
      flagged_words = λ k. sum_of (λ j. bit (is_flagged (line_at m j) cws k)) (other_lines n l);
    }

-- ---- a visit to line l of the memory: what it reports, chip k's word, and the line's bytes after it

unfoldable pub report_in : ℕ → List ℕ → ℕ → List ℕ → Report
report_in n m l cws = report_of (evidence_of n m l cws) (line_at m l) cws

unfoldable pub word_in : ℕ → List ℕ → ℕ → List ℕ → ℕ → ℕ
word_in n m l cws = word_of (evidence_of n m l cws) (line_at m l) cws

unfoldable pub bytes_in : ℕ → List ℕ → ℕ → List ℕ → List ℕ
bytes_in n m l cws = bytes_after (evidence_of n m l cws) (line_at m l) cws
