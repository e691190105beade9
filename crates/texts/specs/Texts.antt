-- Document 01, "Bench examples", program `bench`: what is printed for a line.
-- Definitions alone; what holds of them is in `TextLaws` and `ReadBackLaws`.
use Rattle.std.specs.Prelude.{ℕ, ◌+◌, cond, List, [], ◌∷◌, ◌++◌, ◌≡◌, ltb, length}
use Rattle.std.proofs.lemmas.List.Edits.{sets}
use Rattle.io.specs.Digits.{last_digits}
use Rattle.events.specs.Fields.{space, line_feed}

-- the last k hexadecimal digits of a number, highest first
unfoldable pub hex_text : ℕ → ℕ → List ℕ
hex_text k n = last_digits 16 k n

-- a number below 1,000 in decimal: as few digits as hold it
unfoldable pub decimal_text : ℕ → List ℕ
decimal_text n = last_digits 10 (cond (ltb n 10) 1 (cond (ltb n 100) 2 3)) n

-- the letter and 0 or the refusal
unfoldable pub call_text : ℕ → ℕ → List ℕ
call_text letter refusal = letter ∷ space ∷ (decimal_text refusal ++ (line_feed ∷ []))

-- passes, flagged mask, collision mask (three digits each mask), a space before each
unfoldable pub visit_text : ℕ → ℕ → ℕ → List ℕ
visit_text passes flagged collisions =
    (space ∷ decimal_text passes) ++ ((space ∷ hex_text 3 flagged) ++ (space ∷ hex_text 3 collisions))

-- an answered r adds the first word and what the visit reported
unfoldable pub read_text : ℕ → ℕ → ℕ → ℕ → List ℕ
read_text word passes flagged collisions =
    (114 ∷ space ∷ decimal_text 0) ++ ((space ∷ hex_text 16 word) ++ (visit_text passes flagged collisions ++ (line_feed ∷ [])))

-- every other line prints `?`
unfoldable pub unknown_text : List ℕ
unknown_text = 63 ∷ line_feed ∷ []

-- the longest of these has 33 bytes, that of an answered r with passes of three digits
abbrev pub longest_text : ℕ
longest_text = 33

-- a text stands in the bytes from a place on, and the other bytes are as before; next is the place behind it
pub record Laid (before : List ℕ) (at : ℕ) (text after : List ℕ) (next : ℕ) : Type 0 where
  pub bytes : after ≡ sets before at text
  pub behind : next ≡ at + length text
