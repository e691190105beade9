-- Document 01, "The code inside a chip" (what a chip sends) and "A visit to a line", steps 1, 2, 4 and 5: what the nine chips send in the
-- three passes, and which are flagged; document 02, Req 02. m stands for the line's 81 bytes, cws for the nine catch-words and k for a
-- chip's number. A catch-word, document 01's term, is what the controller expects of a chip in place of a word that the chip knows is bad; a
-- register is what the chip then sends.
-- Definitions alone; what holds of them is in `PassLaws`.
use Rattle.std.specs.Prelude.{ℕ, ◌-◌, ◌/◌, ◌^◌, Bool, true, false, not, ◌&&◌, cond, List, get_or, eqb}
use Rattle.code.specs.Code.{is_codeword, mended_word, status_of, is_beyond}
use Rattle.code.specs.declared.Status.{Status}
use Rattle.cells.specs.Chips.{xor_all, count}
use Rattle.cells.specs.Cells.{chips, cell_at}

-- chip k holds no codeword: it is not sound, document 02's term
unfoldable pub is_unsound : List ℕ → ℕ → Bool
is_unsound m k = not (is_codeword (cell_at m k))

-- with Enable set a chip sends its word if it holds a codeword, else its register; with Enable clear it sends M of its nine bytes
unfoldable pub sends : Bool → ℕ → ℕ → ℕ
sends enable register e = cond enable (cond (is_codeword e) (e / 256) register) (mended_word e)

-- a pass: what chip k sends
unfoldable pub sent_at : Bool → (ℕ → ℕ) → List ℕ → ℕ → ℕ
sent_at enable registers m k = sends enable (registers k) (cell_at m k)

-- 1. Pass one, registers equal to catch-words
unfoldable pub catch_word : List ℕ → ℕ → ℕ
catch_word cws k = get_or cws k 0

unfoldable pub pass_one : List ℕ → List ℕ → ℕ → ℕ
pass_one m cws = sent_at true (catch_word cws) m

-- candidates are chips that sent their catch-word
unfoldable pub is_candidate : List ℕ → List ℕ → ℕ → Bool
is_candidate m cws k = eqb (pass_one m cws k) (catch_word cws k)

-- 2. Pass two, if there are candidates: all registers hold the complements of the catch-words
unfoldable pub complement : List ℕ → ℕ → ℕ
complement cws k = 2 ^ 64 - 1 - catch_word cws k

unfoldable pub pass_two : List ℕ → List ℕ → ℕ → ℕ
pass_two m cws = sent_at true (complement cws) m

-- a candidate that sent its complement is flagged; any other candidate is a collision. Both are document 01's terms.
unfoldable pub sent_complement : List ℕ → List ℕ → ℕ → Bool
sent_complement m cws k = eqb (pass_two m cws k) (complement cws k)

unfoldable pub is_flagged : List ℕ → List ℕ → ℕ → Bool
is_flagged m cws k = is_candidate m cws k && sent_complement m cws k

unfoldable pub is_collision : List ℕ → List ℕ → ℕ → Bool
is_collision m cws k = is_candidate m cws k && not (sent_complement m cws k)

unfoldable pub flagged_chips : List ℕ → List ℕ → ℕ
flagged_chips m cws = count (is_flagged m cws) chips

-- 4. One flagged: its word is the xor of the other eight
unfoldable pub xor_others : (ℕ → ℕ) → ℕ → ℕ
xor_others words k = xor_all (λ j. cond (eqb j k) 0 (words j)) chips

-- 5. Two or more: pass three with Enable clear. The registers are still those of pass two, and no chip sends them.
unfoldable pub pass_three : List ℕ → List ℕ → ℕ → ℕ
pass_three m cws = sent_at false (complement cws) m

-- Document 02, Req 02: for each word sent with Enable clear a chip tells its status
unfoldable pub chip_status : List ℕ → ℕ → Status
chip_status m k = status_of (cell_at m k)

-- a flagged chip that is beyond mending
unfoldable pub is_flagged_beyond : List ℕ → List ℕ → ℕ → Bool
is_flagged_beyond m cws k = is_flagged m cws k && is_beyond (chip_status m k)

unfoldable pub beyond_chips : List ℕ → List ℕ → ℕ
beyond_chips m cws = count (is_flagged_beyond m cws) chips

-- ---- what a chip holds, by the line alone; for laws. Not of document 01

-- chip k's word as it stands
abbrev pub held_word : List ℕ → ℕ → ℕ
held_word m k = cell_at m k / 256

-- M of chip k's nine bytes
abbrev pub mended_at : List ℕ → ℕ → ℕ
mended_at m k = mended_word (cell_at m k)

-- chip k is beyond mending
abbrev pub beyond_at : List ℕ → ℕ → Bool
beyond_at m k = is_beyond (chip_status m k)

-- chip k holds a codeword whose word is its catch-word
unfoldable pub holds_catch_word : List ℕ → List ℕ → ℕ → Bool
holds_catch_word m cws k = is_codeword (cell_at m k) && eqb (held_word m k) (catch_word cws k)
