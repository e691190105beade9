-- What passes one and two of a line give to the steps after them. Not of document 01.
-- Definitions alone.
use Rattle.std.specs.Prelude.{List, ℕ}
use Rattle.cells.specs.Chips.{xor_all, mask}
use Rattle.cells.specs.Cells.{chips}
use Rattle.passes.specs.Passes.{pass_one, is_flagged}
use Rattle.passes.specs.Syndromes.{syndromes_of}
use Rattle.line.specs.declared.FirstTwo.{FirstTwo}

abbrev pub first_two_of : List ℕ → List ℕ → FirstTwo
first_two_of m cws =
    record {
      syndromes = syndromes_of m;
      parity = xor_all (pass_one m cws) chips;
      flagged = mask (is_flagged m cws) chips;
    }
