-- Document 01, "Bench examples", program `bench`: how a line is cut into fields. s stands for bytes.
-- Definitions alone; what holds of them is in `FieldLaws`.
use Rattle.std.specs.Prelude.{ℕ, cond, List, [], ◌∷◌, eqb}

-- one space parts the fields: 20h
abbrev pub space : ℕ
space = 32

-- a line ends at byte 0Ah
abbrev pub line_feed : ℕ
line_feed = 10

-- a byte in front of the first field
unfoldable pub on_first : ℕ → List (List ℕ) → List (List ℕ)
on_first b [] = (b ∷ []) ∷ []
on_first b (f ∷ fs) = (b ∷ f) ∷ fs

-- the fields: a line cut at each space, so that two spaces in a row have an empty field between them
unfoldable pub fields : List ℕ → List (List ℕ)
fields [] = [] ∷ []
fields (b ∷ bs) = cond (eqb b space) ([] ∷ fields bs) (on_first b (fields bs))
