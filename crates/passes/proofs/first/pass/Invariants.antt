use Rattle.cells.specs.Cells.{word_at}
use Rattle.passes.specs.Passes.{pass_one, is_unsound}
use Rattle.passes.proofs.Turns.{Exchanged}
use Rattle.passes.proofs.first.pass.Given as goal

abbrev pub invariant-loop-k : goal.invariant-loop-k
invariant-loop-k l =
    Exchanged (is_unsound l.line) (word_at l.line) (pass_one l.line l.catch_words) l.k-iterator.rest l.parity
