-- Lines of the plain memory for which the premise holds by itself (`proofs/Damages.antt`), and what a refused line is. x stands for a line, p
-- for the plain memory, l for a line's and k for a chip's number.
-- Definitions alone.
use Rattle.std.specs.Prelude.{◌≡◌, ◌≢◌, true, false, ℕ, ◌≤◌, ◌<◌}
use Rattle.std.specs.Int.Count.{ones}
use Rattle.code.specs.Code.{is_codeword, mended_word, status_of, is_beyond}
use Rattle.claims.specs.Plain.{Line, Plain, damage, damaged_chips, wide, other_count, reaches_tenth, blames}

-- all chips but k have no damage, and k's is zero or no codeword
pub record OneChip (x : Line) (k : ℕ) : Type 0 where
  pub others : (j : ℕ) → j < 9 → j ≢ k → damage x j ≡ 0
  pub detected : is_codeword (damage x k) ≡ true → damage x k ≡ 0

-- no chip's damage has more than one bit
abbrev pub Narrow : Line → Type 0
Narrow x = (k : ℕ) → k < 9 → ones (damage x k) ≤ 1

-- chip k's damage is beyond mending, and no other chip's has more than one bit
pub record OneBeyond (x : Line) (k : ℕ) : Type 0 where
  pub chip : k < 9
  pub beyond : is_beyond (status_of (damage x k)) ≡ true
  pub others : (j : ℕ) → j < 9 → j ≢ k → ones (damage x j) ≤ 1

-- what a refusal under the premise shows: two or more chips are damaged, and one of them has more than one bad bit, which its code takes for
-- one, so that a bit is inverted that was right; and it is not blamed by its row
pub record Refused (p : Plain) (l : ℕ) : Type 0 where
  pub several : 1 < damaged_chips (p.plain_line l)
  pub chip : ℕ
  pub below : chip < 9
  pub is_wide : wide (p.plain_line l) chip ≡ true
  pub not_beyond_lem : is_beyond (status_of (damage (p.plain_line l) chip)) ≡ false
  pub remains : mended_word (damage (p.plain_line l) chip) ≢ 0
  pub not_blamed : blames p l chip ≡ false

-- a bad row (document 02, Req 04): there is another line; chip k's damage is no codeword on at least a tenth of the other lines, and no other
-- chip's is on a tenth; on line l no other chip's damage has more than one bit, and k's is whatever it is, but zero or no codeword
pub record BadRow (p : Plain) (l k : ℕ) : Type 0 where
  pub chip : k < 9
  pub another : 0 < other_count p l
  pub reached : reaches_tenth p l k ≡ true
  pub alone : (j : ℕ) → j < 9 → j ≢ k → reaches_tenth p l j ≡ false
  pub others : (j : ℕ) → j < 9 → j ≢ k → ones (damage (p.plain_line l) j) ≤ 1
  pub detected : is_codeword (damage (p.plain_line l) k) ≡ true → damage (p.plain_line l) k ≡ 0
