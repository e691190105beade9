-- A clean line: document 01, "A visit to a line", where step 1 finds no candidate and step 3 answers. After it, what the scan looks at.
-- Definitions alone; what holds of them is in `ScanLaws`.
use Rattle.std.specs.Prelude.{◌≡◌, Bool, ◌&&◌, List, ℕ, eqb}
use Rattle.cells.specs.Chips.{xor_all, count, mask}
use Rattle.cells.specs.Cells.{chips, word_at, check_at}
use Rattle.passes.specs.Passes.{catch_word, pass_one, is_candidate, is_unsound}

-- no chip is a candidate, and the nine words sent in pass one xor to zero
unfoldable pub is_clean : List ℕ → List ℕ → Bool
is_clean m cws = eqb (mask (is_candidate m cws) chips) 0 && eqb (xor_all (pass_one m cws) chips) 0

-- chip k's word is its catch-word
abbrev pub equals_catch_word : List ℕ → List ℕ → ℕ → Bool
equals_catch_word m cws k = eqb (word_at m k) (catch_word cws k)

-- what a clean line comes to
pub record Clean (m cws : List ℕ) : Type 0 where
  pub words : xor_all (word_at m) 9 ≡ 0
  pub checks : xor_all (check_at m) 9 ≡ 0
  pub eight : count (is_unsound m) 8 ≡ 0
  pub none : count (equals_catch_word m cws) 9 ≡ 0
