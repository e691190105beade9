-- Laws of what is added to a line's check bytes (document 02, Req 06): the words stay, what is put on is taken off again, and stored codewords
-- are codewords without it.
-- Assumes nothing.
use Rattle.std.proofs.Common.{◌≡◌, ℕ, ◌+◌, ◌*◌, ◌<◌, T, eqb, length, get_or, take, drop, refl, sym, ap, ap₂, ◌∙◌, arith, take_at, drop_at, List, [], ◌∷◌, ◌++◌, zero-add, lit<, replicate, length-append}
use Rattle.std.specs.Int.Bits.{bit_xor, xor_self}
use Rattle.code.specs.Code.{check_of, stored_check, without_added}
use Rattle.code.proofs.StoredLaws.{stored_lt}
use Rattle.code.specs.TestLaws.{each, each_equal}
use Rattle.words.specs.Bytes.{number_of, bytes_of, bytes_from, xor_bytes, Bytes}
use Rattle.words.specs.ByteLaws.{bytes_append, bytes_cons, bytes_zeros, bytes_bytes_of, bytes_bytes_from, length_bytes_of, length_bytes_from, length_xor, bytes_xor, number_xor, number_snoc, number_zeros, xor_snoc, xor_zeros, xor_bytes_assoc, xor_bytes_comm}
use Rattle.cells.specs.Chips.{joined, xor_all}
use Rattle.cells.specs.ChipLaws.{joined_ext}
use Rattle.cells.specs.Cells.{chip_at, word_at, check_at, cell_at, codeword, stored_codeword, added_bytes, xor_checks, eight_at, line_word, stored, stored_line, line_of}
use Rattle.cells.specs.CellLaws.{length_joined, chip_joined, same_chips, bytes_joined, length_chip, chip_split, cell_number, eight_chip, length_codeword}

-- ---- a chip's nine bytes

module _ (a : ℕ) where
  pub length_added : length (added_bytes a) ≡ 9
  unfolding added_bytes
  length_added = refl

  -- their number is what is added
  number_added : number_of (added_bytes a) ≡ a
  unfolding added_bytes
  number_added = number_snoc (replicate 8 0) a ∙ ap (λ (x : ℕ). x * 256 + a) (number_zeros 8) ∙ zero-add a

  bytes_added : a < 256 → Bytes (added_bytes a)
  unfolding added_bytes
  bytes_added h = bytes_append (replicate 8 0) (a ∷ []) (bytes_zeros 8) (bytes_cons a [] h (λ i. lit< tt))

  -- eight bytes stay, and the ninth has a xored in
  added_snoc : (w : List ℕ) (c : ℕ) → length w ≡ 8 → xor_bytes (w ++ (c ∷ [])) (added_bytes a) ≡ w ++ (bit_xor c a ∷ [])
  unfolding added_bytes
  added_snoc w c e =
      xor_snoc w (replicate 8 0) c a e ∙ ap (λ (x : List ℕ). x ++ (bit_xor c a ∷ [])) (xor_zeros w 8 e)

  -- a stored codeword is the codeword with what is added
  pub stored_codeword_lem : (w : ℕ) → xor_bytes (codeword w) (added_bytes a) ≡ stored_codeword a w
  unfolding codeword stored_codeword stored_check
  stored_codeword_lem w = added_snoc (bytes_of 8 w) (check_of w) (length_bytes_of 8 w)

  pub length_stored : (w : ℕ) → length (stored_codeword a w) ≡ 9
  unfolding stored_codeword
  length_stored w = length-append (bytes_of 8 w) (stored_check a w ∷ []) ∙ ap (λ (n : ℕ). n + 1) (length_bytes_of 8 w)

  pub bytes_stored : a < 256 → (w : ℕ) → Bytes (stored_codeword a w)
  unfolding stored_codeword
  bytes_stored h w =
      bytes_append (bytes_of 8 w) (stored_check a w ∷ []) (bytes_bytes_of 8 w) (bytes_cons (stored_check a w) [] (stored_lt a h w) (λ i. lit< tt))

  length_with : (c : List ℕ) → length c ≡ 9 → length (xor_bytes c (added_bytes a)) ≡ 9
  length_with c e = length_xor c (added_bytes a) (e ∙ sym length_added) ∙ length_added

  none : xor_bytes (added_bytes a) (added_bytes a) ≡ replicate 9 0
  unfolding added_bytes
  none = ap (λ (x : ℕ). replicate 8 0 ++ (x ∷ [])) (xor_self a)

  -- twice is not at all
  twice_none : (c : List ℕ) → length c ≡ 9 → xor_bytes (xor_bytes c (added_bytes a)) (added_bytes a) ≡ c
  twice_none c e =
      xor_bytes_assoc c (added_bytes a) (added_bytes a) (e ∙ sym length_added) refl ∙ ap (xor_bytes c) none ∙ xor_zeros c 9 e

  -- a pattern beside it
  pub pattern_beside : (c q : List ℕ) → length c ≡ 9 → length q ≡ 9
      → xor_bytes (xor_bytes c q) (added_bytes a) ≡ xor_bytes (xor_bytes c (added_bytes a)) q
  pattern_beside c q ec eq =
      xor_bytes_assoc c q (added_bytes a) (ec ∙ sym eq) (eq ∙ sym length_added)
      ∙ ap (xor_bytes c) (xor_bytes_comm q (added_bytes a))
      ∙ sym (xor_bytes_assoc c (added_bytes a) q (ec ∙ sym length_added) (length_added ∙ sym eq))

-- ---- a line's 81 bytes

-- of a line that is made of its chips
pub checks_joined : (a : ℕ) (f : ℕ → List ℕ) → ((k : ℕ) → k < 9 → length (f k) ≡ 9)
    → xor_checks a (joined f 9) ≡ joined (λ k. xor_bytes (f k) (added_bytes a)) 9
unfolding xor_checks
checks_joined a f nine = joined_ext _ _ 9 (λ k l. ap (λ (c : List ℕ). xor_bytes c (added_bytes a)) (chip_joined f nine k l))

-- a line of codewords with what is added is a line of stored codewords
pub stored_line_lem : (a : ℕ) (w : ℕ → ℕ) → xor_checks a (stored w) ≡ stored_line a w
unfolding stored stored_line
stored_line_lem a w =
    checks_joined a (λ k. codeword (w k)) (λ k l. length_codeword (w k)) ∙ joined_ext _ _ 9 (λ k l. stored_codeword_lem a (w k))

-- the nine words of 64 zeros are 0
zero_words_lem : T (each (λ k. eqb (line_word (replicate 64 0) k) 0) 9)
unfolding line_word eight_at number_of bytes_from xor_all
zero_words_lem = tt

-- so each chip of a line of 64 zeros holds word 0
pub zeros_laid : (a : ℕ) → stored_line a (line_word (replicate 64 0)) ≡ stored_line a (λ k. 0)
unfolding stored_line
zeros_laid a = joined_ext _ _ 9 (λ k l. ap (stored_codeword a) (each_equal (line_word (replicate 64 0)) (λ k. 0) 9 zero_words_lem k l))

pub length_stored_line : (a : ℕ) (w : ℕ → ℕ) → length (stored_line a w) ≡ 81
unfolding stored_line
length_stored_line a w = length_joined (λ k. stored_codeword a (w k)) 9 9 (λ k l. length_stored a (w k))

module _ (a : ℕ) (m : List ℕ) (e : length m ≡ 81) where
  nine : (k : ℕ) → k < 9 → length (xor_bytes (chip_at m k) (added_bytes a)) ≡ 9
  nine k l = length_with a (chip_at m k) (length_chip m k e l)

  pub length_checks : length (xor_checks a m) ≡ 81
  unfolding xor_checks
  length_checks = length_joined (λ k. xor_bytes (chip_at m k) (added_bytes a)) 9 9 nine

  pub chip_checks : (k : ℕ) → k < 9 → chip_at (xor_checks a m) k ≡ xor_bytes (chip_at m k) (added_bytes a)
  unfolding xor_checks
  chip_checks = chip_joined (λ k. xor_bytes (chip_at m k) (added_bytes a)) nine

  -- chip k's eight bytes of a word, and its check byte
  split_checks : (k : ℕ) → k < 9 → chip_at (xor_checks a m) k ≡ bytes_from 8 (9 * k) m ++ (bit_xor (check_at m k) a ∷ [])
  split_checks k l =
      chip_checks k l ∙ ap (λ (c : List ℕ). xor_bytes c (added_bytes a)) (chip_split m k e l)
      ∙ added_snoc a (bytes_from 8 (9 * k) m) (check_at m k) (eight k l)
    where
      eight : (k : ℕ) → k < 9 → length (bytes_from 8 (9 * k) m) ≡ 8
      eight k l = length_bytes_from 8 (9 * k) m (omega (arith, e, l))

  eight_checks : (k : ℕ) → k < 9 → bytes_from 8 (9 * k) (xor_checks a m) ≡ bytes_from 8 (9 * k) m
  eight_checks k l =
      eight_chip (xor_checks a m) k ∙ ap (take 8) (split_checks k l)
      ∙ take_at (bytes_from 8 (9 * k) m) (bit_xor (check_at m k) a ∷ []) 8 (length_bytes_from 8 (9 * k) m (omega (arith, e, l)))

  -- the words stay
  pub word_checks : (k : ℕ) → k < 9 → word_at (xor_checks a m) k ≡ word_at m k
  unfolding word_at
  word_checks k l = ap number_of (eight_checks k l)

  -- a is xored into the check bytes
  pub check_checks : (k : ℕ) → k < 9 → check_at (xor_checks a m) k ≡ bit_xor (check_at m k) a
  check_checks k l =
      let w : List ℕ = bytes_from 8 (9 * k) m in
      let eight : length w ≡ 8 = length_bytes_from 8 (9 * k) m (omega (arith, e, l)) in
      let both : w ++ (check_at (xor_checks a m) k ∷ []) ≡ w ++ (bit_xor (check_at m k) a ∷ []) =
      ap (λ (x : List ℕ). x ++ (check_at (xor_checks a m) k ∷ [])) (sym (eight_checks k l))
      ∙ sym (chip_split (xor_checks a m) k length_checks l)
      ∙ split_checks k l in
      ap (λ (x : List ℕ). get_or x 0 0)
      (sym (drop_at w (check_at (xor_checks a m) k ∷ []) 8 eight) ∙ ap (drop 8) both ∙ drop_at w (bit_xor (check_at m k) a ∷ []) 8 eight)

  -- the line's 64 bytes stay
  pub line_of_checks : line_of (xor_checks a m) ≡ line_of m
  unfolding line_of
  line_of_checks = joined_ext _ _ 8 (λ k l. eight_checks k (omega (arith, l)))

  module _ (fits : a < 256) (bytes : Bytes m) where
    -- as one number: what is added is taken off a chip's nine bytes
    pub cell_checks : (k : ℕ) → k < 9 → cell_at (xor_checks a m) k ≡ without_added a (cell_at m k)
    unfolding without_added chip_at
    cell_checks k l =
        cell_number (xor_checks a m) k length_checks l
        ∙ ap number_of (chip_checks k l)
        ∙ number_xor (chip_at m k) (added_bytes a) (length_chip m k e l ∙ sym (length_added a)) (bytes_bytes_from 9 (9 * k) m bytes) (bytes_added a fits)
        ∙ ap₂ bit_xor (sym (cell_number m k e l)) (number_added a)

-- what was put on is taken off
pub checks_twice : (a : ℕ) (m : List ℕ) → length m ≡ 81 → xor_checks a (xor_checks a m) ≡ m
checks_twice a m e =
    let once : length (xor_checks a m) ≡ 81 = length_checks a m e in
    same_chips _ m (length_checks a (xor_checks a m) once) e
    (λ k l.
    chip_checks a (xor_checks a m) once k l
    ∙ ap (λ (c : List ℕ). xor_bytes c (added_bytes a)) (chip_checks a m e k l)
    ∙ twice_none a (chip_at m k) (length_chip m k e l))

-- bytes stay bytes
pub bytes_checks : (a : ℕ) → a < 256 → (m : List ℕ) → Bytes m → Bytes (xor_checks a m)
unfolding xor_checks chip_at
bytes_checks a fits m bytes = bytes_joined _ 9 (λ k. bytes_xor (chip_at m k) (added_bytes a) (bytes_bytes_from 9 (9 * k) m bytes) (bytes_added a fits))
