-- The place of a byte in a list of bytes.
-- Definitions alone; what holds of them is in `FieldLaws`.
use Rattle.std.specs.Prelude.{ℕ, suc, ◌≡◌, ◌+◌, ◌<◌, Bool, cond, List, [], ◌∷◌, eqb, length, take, drop}

-- place 0 where a test holds, or the place behind p
unfoldable pub index_after : Bool → ℕ → ℕ
index_after t p = cond t 0 (suc p)

-- the place of the first byte c, or the number of bytes where there is none
unfoldable pub index_of : ℕ → List ℕ → ℕ
index_of c [] = 0
index_of c (b ∷ bs) = index_after (eqb b c) (index_of c bs)

-- s is cut at its first byte c: what stands before it, and what stands behind it
pub record Cut (c : ℕ) (s before behind : List ℕ) : Type 0 where
  pub inside : index_of c s < length s
  pub before_is : before ≡ take (index_of c s) s
  pub behind_is : behind ≡ drop (index_of c s + 1) s
