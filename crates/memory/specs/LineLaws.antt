-- Laws of a line in the lent memory: a line that was laid is read back, the others are as they were, and a line laid over itself changes
-- nothing.
-- Assumes nothing.
use Rattle.std.specs.Prelude.{◌≡◌, refl, ◌≢◌, Bool, true, false, List, ℕ, zero, suc, ◌+◌, ◌*◌, ◌≤◌, ltb, length, take, drop}
use Rattle.std.proofs.Common.{ap, ◌∙◌, arith, drop_of_length-le, drop-cons, ltb-true, ltb-false}
use Rattle.std.proofs.lemmas.List.Edits.{sets}
use Rattle.std.proofs.Math.Seq.{length-sets}
use Rattle.std.proofs.lemmas.List.{set-get_or}
use Rattle.words.specs.Bytes.{bytes_from, Bytes}
use Rattle.words.specs.ByteLaws.{length_bytes_from, bytes_bytes_from}
use Rattle.cells.specs.CellLaws.{block_laid, block_other}
use Rattle.memory.specs.Lines.{line_at, with_line}

-- laying a line keeps the memory's length
pub length_with_line : (m : List ℕ) (l : ℕ) (bs : List ℕ) → length (with_line m l bs) ≡ length m
unfolding with_line
length_with_line m l bs = length-sets m (81 * l) bs

-- a line of bytes has bytes
pub bytes_line : (m : List ℕ) (l : ℕ) → Bytes m → Bytes (line_at m l)
unfolding line_at
bytes_line m l b = bytes_bytes_from 81 (81 * l) m b

-- what stands at a place, stored there again
sets_own : (n i : ℕ) (m : List ℕ) → sets m i (take n (drop i m)) ≡ m
sets_own zero i m = refl
sets_own (suc n) i m = by (sets_own n (suc i) m) (ltb i (length m)) refl
  where
    by : sets m (suc i) (take n (drop (suc i) m)) ≡ m → (b : Bool) → ltb i (length m) ≡ b → sets m i (take (suc n) (drop i m)) ≡ m
    by rest true e =
        ap (λ (xs : List ℕ). sets m i (take (suc n) xs)) (drop-cons m i 0 (ltb-true i (length m) e))
        ∙ ap (λ (l : List ℕ). sets l (suc i) (take n (drop (suc i) m))) (set-get_or m i 0)
        ∙ rest
    by rest false e = ap (λ (xs : List ℕ). sets m i (take (suc n) xs)) (drop_of_length-le m {i = i} (ltb-false i (length m) e))

-- a line laid over itself changes nothing
pub line_same : (m : List ℕ) (l : ℕ) → with_line m l (line_at m l) ≡ m
unfolding with_line line_at bytes_from
line_same m l = sets_own 81 (81 * l) m

-- a line that lies in the memory has 81 bytes
pub length_line_at : (m : List ℕ) (l : ℕ) → 81 * l + 81 ≤ length m → length (line_at m l) ≡ 81
unfolding line_at
length_line_at m l fits = length_bytes_from 81 (81 * l) m fits

-- a line laid at a place that lies in the memory
module _ (m : List ℕ) (l : ℕ) (fits : 81 * l + 81 ≤ length m) (bs : List ℕ) (full : length bs ≡ 81) where
  -- the line holds what was laid
  pub line_laid : line_at (with_line m l bs) l ≡ bs
  unfolding line_at with_line
  line_laid = block_laid 81 m bs l full (omega arith)

  -- the other lines are as they were
  pub line_other : (j : ℕ) → j ≢ l → line_at (with_line m l bs) j ≡ line_at m j
  unfolding line_at with_line
  line_other j ne = block_other 81 m bs l full (omega arith) j ne
