-- Document 01, "Bench examples", program `bench`: the event of a line.
-- Definitions alone; what holds of them is in `EventLaws`.
use Rattle.std.specs.Prelude.{ℕ, cond, List, [], ◌∷◌, eqb, take, drop, Option, Some, None}
use Rattle.events.specs.Fields.{fields}
use Rattle.events.specs.Numbers.{is_decimal, is_hex, value_of}
use Rattle.events.specs.declared.Event.{Event}
use Rattle.events.specs.declared.Event.TheVariants.{Write, Read, Fault}

-- a field L or K, and what its number n and the other fields ask for
unfoldable pub number_then : (ℕ → List (List ℕ) → Option Event) → List (List ℕ) → Option Event
number_then g [] = None
number_then g (f ∷ fs) = cond (is_decimal f) (g (value_of 10 f) fs) None

-- one field and no more, and what it asks for
unfoldable pub last_field : (List ℕ → Option Event) → List (List ℕ) → Option Event
last_field g [] = None
last_field g (f ∷ []) = g f
last_field g (f ∷ f' ∷ fs) = None

-- HH: 64 equal bytes, for line n
unfoldable pub byte_event : ℕ → List ℕ → Option Event
byte_event n h = cond (is_hex 2 h) (Some (Write n (value_of 16 h))) None

-- L HH
unfoldable pub write_event : List (List ℕ) → Option Event
write_event = number_then (λ n. last_field (byte_event n))

-- L
unfoldable pub line_event : List ℕ → Option Event
line_event l = cond (is_decimal l) (Some (Read (value_of 10 l))) None

unfoldable pub read_event : List (List ℕ) → Option Event
read_event = last_field line_event

-- a pattern of 18 hexadecimal digits, word then check, for line n and chip k
unfoldable pub pattern_event : ℕ → ℕ → List ℕ → Option Event
pattern_event n k p = cond (is_hex 18 p) (Some (Fault n k (value_of 16 (take 16 p)) (value_of 16 (drop 16 p)))) None

-- K and a pattern, for line n
unfoldable pub chip_event : ℕ → List (List ℕ) → Option Event
chip_event n = number_then (λ k. last_field (pattern_event n k))

-- L K and a pattern
unfoldable pub fault_event : List (List ℕ) → Option Event
fault_event = number_then chip_event

-- the letter w, r or f (77h, 72h, 66h) and the fields that belong to it
unfoldable pub letter_event : ℕ → List (List ℕ) → Option Event
letter_event c fs = cond (eqb c 119) (write_event fs) (cond (eqb c 114) (read_event fs) (cond (eqb c 102) (fault_event fs) None))

-- the first field is a letter; every other line is unknown
unfoldable pub event_by : List (List ℕ) → Option Event
event_by [] = None
event_by ([] ∷ fs) = None
event_by ((c ∷ []) ∷ fs) = letter_event c fs
event_by ((c ∷ b ∷ bs) ∷ fs) = None

unfoldable pub event_of : List ℕ → Option Event
event_of s = event_by (fields s)
