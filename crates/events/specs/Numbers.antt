-- Document 01, "Bench examples", program `bench`: numbers of a script. s stands for a field's bytes.
-- Definitions alone; what holds of them is in `NumberLaws`.
use Rattle.std.specs.Prelude.{ℕ, ◌+◌, ◌-◌, ◌*◌, Bool, true, ◌&&◌, cond, List, [], ◌∷◌, eqb, leb, ltb, length, take, drop, Option, Some, None}
use Rattle.events.specs.Places.{index_of}
use Rattle.events.specs.Fields.{space}

-- the digit of a byte: 30h to 39h are 0 to 9, 61h to 66h (lower case) are 10 to 15; any other byte is no digit, here 16
unfoldable pub digit_of : ℕ → ℕ
digit_of b = cond (leb 48 b && leb b 57) (b - 48) (cond (leb 97 b && leb b 102) (b - 87) 16)

-- each byte is a digit in a base
unfoldable pub is_numeral : ℕ → List ℕ → Bool
is_numeral base [] = true
is_numeral base (b ∷ bs) = ltb (digit_of b) base && is_numeral base bs

-- the number of digits, highest first, behind those of a number n
unfoldable pub value_from : ℕ → ℕ → List ℕ → ℕ
value_from base n [] = n
value_from base n (b ∷ bs) = value_from base (n * base + digit_of b) bs

unfoldable pub value_of : ℕ → List ℕ → ℕ
value_of base s = value_from base 0 s

-- L and K are decimal, one to nine digits
unfoldable pub is_decimal : List ℕ → Bool
is_decimal s = leb 1 (length s) && leb (length s) 9 && is_numeral 10 s

-- n hexadecimal digits
unfoldable pub is_hex : ℕ → List ℕ → Bool
is_hex n s = eqb (length s) n && is_numeral 16 s

-- the number of a field where a test holds
abbrev pub number_if : Bool → ℕ → Option ℕ
number_if t v = cond t (Some v) None

-- the number of a decimal field in front of others, which ends at place e, and what stands behind the space there
unfoldable pub leading_to : ℕ → List ℕ → Option (ℕ × List ℕ)
leading_to e s = cond (ltb e (length s) && is_decimal (take e s)) (Some (value_of 10 (take e s), drop (e + 1) s)) None

unfoldable pub leading_number : List ℕ → Option (ℕ × List ℕ)
leading_number s = leading_to (index_of space s) s
