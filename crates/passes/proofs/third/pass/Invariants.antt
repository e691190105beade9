use Rattle.std.proofs.Common.{List, ℕ, ◌%◌}
use Rattle.code.specs.Code.{mended, mended_word}
use Rattle.cells.specs.Cells.{cell_at}
use Rattle.passes.specs.Passes.{is_flagged}
use Rattle.passes.proofs.Turns.{Put, Sent}
use Rattle.passes.proofs.third.pass.Given as goal

-- the word and the check byte of chip k after mending
abbrev pub word : List ℕ → ℕ → ℕ
word m k = mended_word (cell_at m k)

abbrev pub check : List ℕ → ℕ → ℕ
check m k = mended (cell_at m k) % 256

abbrev pub invariant-loop-k : goal.invariant-loop-k
invariant-loop-k l =
    Sent l.line l.catch_words l.k-iterator.rest l.xor l.beyond
    × (Put (is_flagged l.line l.catch_words) (word l.line) l.k-iterator.rest l.places.words
    × Put (is_flagged l.line l.catch_words) (check l.line) l.k-iterator.rest l.places.checks)
