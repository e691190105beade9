-- The syndromes of a line's nine chips, made once for all passes. Not of document 01.
-- Definitions alone; what holds of them is in `SyndromeLaws`.
use Rattle.std.specs.Prelude.{Bool, ◌&&◌, cond, List, ℕ, eqb}
use Rattle.code.specs.Code.{syndrome_of}
use Rattle.cells.specs.Cells.{cell_at}
use Rattle.cells.specs.Checks.{every_other, in_checks}
use Rattle.passes.specs.declared.syndromes.Syndromes.{Syndromes}

-- the syndrome of chip k's nine bytes
abbrev pub chip_syndrome : List ℕ → ℕ → ℕ
chip_syndrome m k = syndrome_of (cell_at m k)

-- those of chips 0 to 7, each in its lane, and that of chip 8
unfoldable pub syndromes_of : List ℕ → Syndromes
syndromes_of m = record { eight = record { even = every_other (chip_syndrome m) 0; odd = every_other (chip_syndrome m) 1 }; last = chip_syndrome m 8 }

-- that of chip k
unfoldable pub syndrome_in : Syndromes → ℕ → ℕ
syndrome_in s k = cond (eqb k 8) s.last (in_checks s.eight.even s.eight.odd k)

-- all nine are zero
unfoldable pub are_zero : Syndromes → Bool
are_zero s = eqb s.eight.even 0 && (eqb s.eight.odd 0 && eqb s.last 0)
