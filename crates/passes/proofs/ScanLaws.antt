-- Laws of a clean line: it is one whose words and check bytes xor to zero, whose first eight chips hold codewords, and whose words are not
-- their catch-words. m is the line's bytes.
-- Assumes nothing.
use Rattle.std.proofs.Common.{◌≡◌, true, List, ℕ, suc, ◌+◌, ◌*◌, ◌<◌, refl, sym, ap, ap₂, ◌∙◌, arith, false, not, ◌&&◌, eqb}
use Rattle.std.proofs.lemmas.Bool.{eq-eqb, eqb-true, not-false, or_parts}
use Rattle.code.specs.Code.{cell, syndrome_of, is_codeword, check_of}
use Rattle.code.proofs.CodeLaws.{codeword_syndrome, syndrome_codeword, check_lt, check_makes, check_only, check_zero}
use Rattle.lanes.specs.Lanes.{lanes}
use Rattle.code.specs.XorLaws.{xor_zero_eq}
use Rattle.cells.specs.Chips.{xor_all, count, mask}
use Rattle.cells.specs.Cells.{word_at, check_at, cell_at}
use Rattle.code.specs.TestLaws.{and_first, and_second}
use Rattle.cells.specs.ChipLaws.{xor_all_ext, count_none, count_next, count_zero, mask_zero, mask_count}
use Rattle.words.specs.Bytes.{Bytes}
use Rattle.passes.specs.Passes.{catch_word, pass_one, is_candidate, is_unsound, holds_catch_word}
use Rattle.passes.proofs.PassLaws.{sent_held, candidate_is}
use Rattle.cells.specs.Checks.{every_other}
use Rattle.cells.specs.CheckLaws.{other_equal, checks_xor}
use Rattle.passes.specs.Scan.{is_clean, equals_catch_word, Clean}

-- ---- a chip that holds a codeword

module _ (m : List ℕ) (bytes : Bytes m) where
  pub check_fits : (k : ℕ) → check_at m k < 256
  unfolding check_at
  check_fits k = bytes (9 * k + 8)

  -- its check byte is its word's
  sound_check : (k : ℕ) → is_unsound m k ≡ false → check_at m k ≡ check_of (word_at m k)
  unfolding is_unsound cell_at
  sound_check k e =
      check_only (word_at m k) (check_at m k) (check_fits k) (codeword_syndrome (cell_at m k) (not-false (is_codeword (cell_at m k)) e))

  -- and a chip whose check byte is its word's holds a codeword
  check_sound : (k : ℕ) → check_at m k ≡ check_of (word_at m k) → is_unsound m k ≡ false
  unfolding is_unsound cell_at
  check_sound k e =
      ap not (syndrome_codeword (cell_at m k) (ap (λ (b : ℕ). syndrome_of (cell (word_at m k) b)) e ∙ check_makes (word_at m k)))

  -- ---- eight chips, every other one at a time

  -- the check byte that chip k's word asks for
  abbrev asked : ℕ → ℕ
  asked k = check_of (word_at m k)

  -- eight chips hold codewords where their check bytes are those that their words ask for
  pub eight_made : every_other asked 0 ≡ every_other (check_at m) 0 → every_other asked 1 ≡ every_other (check_at m) 1 → count (is_unsound m) 8 ≡ 0
  unfolding count
  eight_made e o =
      let p = other_equal asked (check_at m) (λ j. check_lt (word_at m j)) check_fits 0 e in
      let q = other_equal asked (check_at m) (λ j. check_lt (word_at m j)) check_fits 1 o in
      let sound : (k : ℕ) → asked k ≡ check_at m k → is_unsound m k ≡ false = λ k h. check_sound k (sym h) in
      let none : count (is_unsound m) 0 ≡ 0 = refl in
      let two : count (is_unsound m) 2 ≡ 0 = count_next (is_unsound m) 1 (count_next (is_unsound m) 0 none (sound 0 p.0)) (sound 1 q.0) in
      let four : count (is_unsound m) 4 ≡ 0 = count_next (is_unsound m) 3 (count_next (is_unsound m) 2 two (sound 2 p.1)) (sound 3 q.1) in
      let six : count (is_unsound m) 6 ≡ 0 = count_next (is_unsound m) 5 (count_next (is_unsound m) 4 four (sound 4 p.2)) (sound 5 q.2) in
      count_next (is_unsound m) 7 (count_next (is_unsound m) 6 six (sound 6 p.3)) (sound 7 q.3)

  -- and where they do, every other check byte from chip k on is what its word asks for
  pub eight_read : (k : ℕ) → k + 6 < 8 → count (is_unsound m) 8 ≡ 0 → every_other asked k ≡ every_other (check_at m) k
  unfolding every_other
  eight_read k l none =
      λ i. lanes (at k (omega arith) i) (at (k + 2) (omega arith) i) (at (k + 4) (omega arith) i) (at (k + 6) (omega arith) i)
    where
      at : (j : ℕ) → j < 8 → check_of (word_at m j) ≡ check_at m j
      at j h = sym (sound_check j (count_none (is_unsound m) 8 none j h))

  -- ---- the xor of the check bytes

  -- that of codewords is the check byte of the xor of their words
  xor_checks_lem : (n : ℕ) → count (is_unsound m) n ≡ 0 → xor_all (check_at m) n ≡ check_of (xor_all (word_at m) n)
  xor_checks_lem n none =
      xor_all_ext (check_at m) (λ k. check_of (word_at m k)) n (λ k l. sound_check k (count_none (is_unsound m) n none k l))
      ∙ checks_xor (word_at m) n

  -- the last of n + 1 chips holds a codeword where the others do and the words and the check bytes xor to zero
  last_sound : (n : ℕ) → xor_all (word_at m) (suc n) ≡ 0 → xor_all (check_at m) (suc n) ≡ 0 → count (is_unsound m) n ≡ 0 → is_unsound m n ≡ false
  unfolding xor_all
  last_sound n words checks none =
      check_sound n
      (sym (xor_zero_eq (xor_all (check_at m) n) (check_at m n) checks)
      ∙ xor_checks_lem n none
      ∙ ap check_of (xor_zero_eq (xor_all (word_at m) n) (word_at m n) words))

-- ---- a clean line

module _ (m cws : List ℕ) where
  -- no chip is a candidate
  pub clean_none : is_clean m cws ≡ true → mask (is_candidate m cws) 9 ≡ 0
  unfolding is_clean
  clean_none e = eqb-true _ 0 (and_first (eqb (mask (is_candidate m cws) 9) 0) (eqb (xor_all (pass_one m cws) 9) 0) e)

  -- the words sent xor to zero
  pub clean_parity : is_clean m cws ≡ true → xor_all (pass_one m cws) 9 ≡ 0
  unfolding is_clean
  clean_parity e = eqb-true _ 0 (and_second (eqb (mask (is_candidate m cws) 9) 0) (eqb (xor_all (pass_one m cws) 9) 0) e)

module _ (m cws : List ℕ) (bytes : Bytes m) where
  -- it is a candidate where that is its catch-word
  candidate : (k : ℕ) → is_unsound m k ≡ false → is_candidate m cws k ≡ equals_catch_word m cws k
  unfolding is_candidate
  candidate k e = ap (λ (w : ℕ). eqb w (catch_word cws k)) (sent_held m cws k bytes e)

  -- such a line is clean
  pub clean_made : Clean m cws → is_clean m cws ≡ true
  unfolding is_clean
  clean_made c =
      let nine : count (is_unsound m) 9 ≡ 0 = count_next (is_unsound m) 8 c.eight (last_sound m bytes 8 c.words c.checks c.eight) in
      let sound : (k : ℕ) → k < 9 → is_unsound m k ≡ false = count_none (is_unsound m) 9 nine in
      ap₂ ◌&&◌
      (eq-eqb _ 0 (mask_zero (is_candidate m cws) 9 (λ k l. candidate k (sound k l) ∙ count_none (equals_catch_word m cws) 9 c.none k l)))
      (eq-eqb _ 0 (xor_all_ext (pass_one m cws) (word_at m) 9 (λ k l. sent_held m cws k bytes (sound k l)) ∙ c.words))

  -- and a clean line is such
  pub clean_read : is_clean m cws ≡ true → Clean m cws
  clean_read e =
      let words : xor_all (word_at m) 9 ≡ 0 = sym (xor_all_ext (pass_one m cws) (word_at m) 9 (λ k l. sent_held m cws k bytes (sound k l))) ∙ clean_parity m cws e in
      record {
        words = words;
        checks = xor_checks_lem m bytes 9 (count_zero (is_unsound m) 9 sound) ∙ ap check_of words ∙ check_zero;
        eight = count_zero (is_unsound m) 8 (λ k l. sound k (omega arith));
        none = count_zero (equals_catch_word m cws) 9 (λ k l. sym (candidate k (sound k l)) ∙ none k l);
      }
    where
      none : (k : ℕ) → k < 9 → is_candidate m cws k ≡ false
      none = count_none (is_candidate m cws) 9 (mask_count (is_candidate m cws) 9 (clean_none m cws e))

      sound : (k : ℕ) → k < 9 → is_unsound m k ≡ false
      sound k l = (or_parts (is_unsound m k) (holds_catch_word m cws k) (sym (candidate_is m cws k) ∙ none k l)).0
