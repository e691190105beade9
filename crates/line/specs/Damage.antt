-- A line that was stored and then damaged, and what the laws of a visit to it ask of the damage: document 01, "Plain memory", and document
-- 02, Req 02, for one line. w gives the nine words that were stored, q the nine patterns as bytes, and p the patterns as numbers, a pattern's
-- word and check as the code has them.
-- Definitions alone; what holds of them is in `DamageLaws` and `ToleratedLaws`.
use Rattle.std.specs.Prelude.{◌≡◌, ◌≢◌, ℕ, ◌^◌, ◌<◌, ◌≤◌, true, false, not, List, eqb}
use Rattle.std.specs.Int.Count.{ones}
use Rattle.code.specs.Code.{is_codeword, mended_word, status_of, is_beyond}
use Rattle.cells.specs.Chips.{joined, xor_all, count}
use Rattle.cells.specs.Cells.{chips, codeword}
use Rattle.words.specs.Bytes.{xor_bytes}

-- nine codewords, each xored with its chip's pattern
unfoldable pub damaged : (ℕ → ℕ) → (ℕ → List ℕ) → List ℕ
damaged w q = joined (λ k. xor_bytes (codeword (w k)) (q k)) chips

-- the words of a stored line: each fits in 64 bits, and chip 8's is the xor of the others
pub record Parity (w : ℕ → ℕ) : Type 0 where
  pub fit : (k : ℕ) → k < chips → w k < 2 ^ 64
  pub sum : xor_all w chips ≡ 0

-- what the premise says of nine patterns, each of 72 bits: zero alone is a codeword, and no two have more than one bit set
pub record Tolerated (p : ℕ → ℕ) : Type 0 where
  pub fit : (k : ℕ) → k < chips → p k < 2 ^ 72
  pub detected : (k : ℕ) → k < chips → is_codeword (p k) ≡ true → p k ≡ 0
  pub one_wide : (j k : ℕ) → j < chips → k < chips → 1 < ones (p j) → 1 < ones (p k) → j ≡ k

-- how many chips are damaged
unfoldable pub damaged_patterns : (ℕ → ℕ) → ℕ
damaged_patterns p = count (λ k. not (eqb (p k) 0)) chips

-- such a line is answered where no or one chip is damaged, where M of every pattern is the zero word, and where a pattern is beyond mending
pub data Answerable (p : ℕ → ℕ) : Type 0 where
  few_damaged : damaged_patterns p ≤ 1 → Answerable p
  all_undone : ((k : ℕ) → k < chips → mended_word (p k) ≡ 0) → Answerable p
  some_beyond : (k : ℕ) → k < chips → is_beyond (status_of (p k)) ≡ true → Answerable p

-- its own bytes leave it undecided where two or more are damaged, M of a pattern is not the zero word, and none is beyond mending
pub record LeftUndecided (p : ℕ → ℕ) : Type 0 where
  pub several : 1 < damaged_patterns p
  pub chip : ℕ
  pub below : chip < chips
  pub remains : mended_word (p chip) ≢ 0
  pub none_beyond : (k : ℕ) → k < chips → is_beyond (status_of (p k)) ≡ false
