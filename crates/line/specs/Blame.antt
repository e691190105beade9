-- Document 02, Req 04: which chip a row diagnosis blames, by what was counted over the other lines of the row (`evidence_of` of crate `rows`).
-- m stands for the wanted line's 81 bytes, cws for the nine catch-words, k for a chip's number and e for the evidence.
-- Definitions alone; what holds of them is in `BlameLaws`.
use Rattle.std.specs.Prelude.{◌≡◌, ◌≢◌, ℕ, ◌*◌, ◌≤◌, ◌<◌, Bool, true, not, ◌&&◌, List, eqb, ltb, leb}
use Rattle.cells.specs.Chips.{count}
use Rattle.cells.specs.Cells.{chips}
use Rattle.passes.specs.Passes.{is_flagged}

-- how many other lines the row has, and for each chip in how many of them its word was flagged
pub record Evidence : Type 0 where
  pub others : ℕ
  pub flagged_words : ℕ → ℕ

-- ten times its count reaches the number of other lines: in document 02's words, it reaches the mark
unfoldable pub reaches : Evidence → ℕ → Bool
reaches e k = leb e.others (10 * e.flagged_words k)

-- another chip reaches it, flagged on the wanted line or not
unfoldable pub other_reaches : Evidence → ℕ → Bool
other_reaches e k = ltb 0 (count (λ j. not (eqb j k) && reaches e j) chips)

-- chip k is blamed, document 02's term, if it is flagged on the wanted line, ten times its count reaches the number of other lines, there is
-- at least one other line, and no other chip reaches that
unfoldable pub is_blamed : Evidence → List ℕ → List ℕ → ℕ → Bool
is_blamed e m cws k = is_flagged m cws k && (reaches e k && (ltb 0 e.others && not (other_reaches e k)))

unfoldable pub blamed_chips : Evidence → List ℕ → List ℕ → ℕ
blamed_chips e m cws = count (is_blamed e m cws) chips

-- the four conditions in words, for the law `who_is_blamed`
pub record Blamed (e : Evidence) (m cws : List ℕ) (k : ℕ) : Type 0 where
  pub flagged : is_flagged m cws k ≡ true
  pub reached : e.others ≤ 10 * e.flagged_words k
  pub another : 0 < e.others
  pub alone : (j : ℕ) → j < chips → j ≢ k → 10 * e.flagged_words j < e.others
