-- Document 01, "The rank": how a line lies in its 81 bytes. m stands for these bytes, k for a chip's number, and d for the line's 64 bytes.
-- A check byte passes between bytes and codewords in `check_at` and `codeword` alone.
-- Definitions alone; what holds of them is in `CellLaws`.
use Rattle.std.specs.Prelude.{ℕ, ◌+◌, ◌*◌, cond, List, [], ◌∷◌, ◌++◌, get_or, replicate, ltb}
use Rattle.std.proofs.lemmas.List.Edits.{sets}
use Rattle.code.specs.Code.{cell, check_of, stored_check}
use Rattle.cells.specs.Chips.{joined, xor_all}
use Rattle.words.specs.Bytes.{number_of, bytes_of, bytes_from, xor_bytes}

-- a line has nine chips of nine bytes, 81 in all, which hold its 64 bytes of data
abbrev pub chips : ℕ
chips = 9

abbrev pub chip_bytes : ℕ
chip_bytes = 9

abbrev pub line_bytes : ℕ
line_bytes = 81

abbrev pub data_bytes : ℕ
data_bytes = 64

-- chip k's nine bytes begin at 9 × k: an eight-byte word, highest byte first, then a check byte
unfoldable pub chip_at : List ℕ → ℕ → List ℕ
chip_at m k = bytes_from chip_bytes (chip_bytes * k) m

unfoldable pub word_at : List ℕ → ℕ → ℕ
word_at m k = number_of (bytes_from 8 (chip_bytes * k) m)

unfoldable pub check_at : List ℕ → ℕ → ℕ
check_at m k = get_or m (chip_bytes * k + 8) 0

-- chip k's word and check as the one number that the code works on
unfoldable pub cell_at : List ℕ → ℕ → ℕ
cell_at m k = cell (word_at m k) (check_at m k)

-- the nine bytes of a word and its check byte
unfoldable pub codeword : ℕ → List ℕ
codeword w = bytes_of 8 w ++ (check_of w ∷ [])

-- Document 02, Req 06: the nine bytes of a word and its stored check byte
unfoldable pub stored_codeword : ℕ → ℕ → List ℕ
stored_codeword added w = bytes_of 8 w ++ (stored_check added w ∷ [])

-- what is added to a chip's nine bytes: nothing to its word
unfoldable pub added_bytes : ℕ → List ℕ
added_bytes added = replicate 8 0 ++ (added ∷ [])

-- the line with a byte xored into each of its nine check bytes: what is added is taken off so, and put on
unfoldable pub xor_checks : ℕ → List ℕ → List ℕ
xor_checks added m = joined (λ k. xor_bytes (chip_at m k) (added_bytes added)) chips

-- the line with bs in the place of chip k's nine bytes
unfoldable pub with_chip : List ℕ → ℕ → List ℕ → List ℕ
with_chip m k bs = sets m (chip_bytes * k) bs

-- the eight of the line's 64 bytes that chip k holds, as a word
unfoldable pub eight_at : List ℕ → ℕ → ℕ
eight_at d k = number_of (bytes_from 8 (8 * k) d)

-- chips 0 to 7 hold the line's 64 bytes in order, eight each; chip 8 holds the xor of those eight words
unfoldable pub line_word : List ℕ → ℕ → ℕ
line_word d k = cond (ltb k 8) (eight_at d k) (xor_all (eight_at d) 8)

-- nine words, a codeword in each chip
unfoldable pub stored : (ℕ → ℕ) → List ℕ
stored w = joined (λ k. codeword (w k)) chips

-- nine words, a stored codeword in each chip
unfoldable pub stored_line : ℕ → (ℕ → ℕ) → List ℕ
stored_line added w = joined (λ k. stored_codeword added (w k)) chips

-- the line's 64 bytes, out of chips 0 to 7
unfoldable pub line_of : List ℕ → List ℕ
line_of m = joined (λ k. bytes_from 8 (chip_bytes * k) m) 8
