-- The bytes after a visit: an answered line holds the words of steps 3 to 5. m is 81 bytes.
-- Assumes nothing.
use Rattle.std.specs.Prelude.{◌≡◌, Bool, eqb, length, take}
use Rattle.std.proofs.Math.Path.{refl, sym, ap}
use Rattle.std.proofs.Common.{◌∙◌, shr_lt}
use Rattle.std.proofs.Math.Bool.{true, false, cond}
use mathlib.Core.List.{List}
use Prim.Native.Nat.{ℕ, zero, suc, ◌^◌, ◌<◌}
use Rattle.std.proofs.Math.Dec.{lit<}
use Rattle.code.proofs.MendLaws.{mended_word_lt}
use Rattle.cells.specs.Chips.{count}
use Rattle.words.specs.Bytes.{number_of, Bytes}
use Rattle.cells.specs.Cells.{word_at, cell_at, chip_at, codeword}
use Rattle.words.specs.ByteLaws.{number_bytes_of}
use Rattle.cells.specs.CellLaws.{length_joined, chip_joined, length_chip, cell_fits, word_chip, held_word_lem, length_codeword, eight_codeword}
use Rattle.cells.specs.ChipLaws.{xor_all_lt}
use Rattle.passes.specs.Passes.{is_flagged, xor_others, is_unsound, held_word, mended_at, beyond_at}
use Rattle.passes.proofs.PassLaws.{sound_mended, sound_mends}
use Rattle.line.specs.Blame.{Evidence}
use Rattle.line.specs.Visit.{outcome_of, word_of, if_answered, with_words, written_back, bytes_after}
use Rattle.line.specs.OutcomeLaws.{either_answered}
use Rattle.line.specs.ClosedForm.{third_word_with, own_word_with, blamed_for, word_with, written_with, finding_for, word_for, bytes_for}
use Rattle.line.proofs.ClosedFormLaws.{outcome_is, word_is, bytes_is}
use Rattle.line.specs.declared.Outcome.{Outcome}
use Rattle.line.specs.declared.Outcome.TheVariants.{Answered}
use Rattle.line.specs.declared.Finding.{Finding}
use Rattle.line.specs.declared.Finding.TheVariants.{Decided, Undecided}

module _ (m : List ℕ) (size : length m ≡ 81) (bytes : Bytes m) where
  held_lt : (k : ℕ) → k < 9 → held_word m k < 2 ^ 64
  held_lt k l = shr_lt 64 8 (cell_fits m k size bytes l)

  others_lt : (f : ℕ → ℕ) (k : ℕ) → ((j : ℕ) → j < 9 → f j < 2 ^ 64) → xor_others f k < 2 ^ 64
  unfolding xor_others
  others_lt f k h = xor_all_lt _ 64 9 (λ j l. pick j l (eqb j k))
    where
      pick : (j : ℕ) → j < 9 → (b : Bool) → cond b 0 (f j) < 2 ^ 64
      pick j l true = lit< tt
      pick j l false = h j l

  -- a word that is rebuilt or not
  either_lt : (f : ℕ → ℕ) (k : ℕ) → k < 9 → ((j : ℕ) → j < 9 → f j < 2 ^ 64) → (b : Bool) → cond b (xor_others f k) (f k) < 2 ^ 64
  either_lt f k l h true = others_lt f k h
  either_lt f k l h false = h k l

  mended_lt : (k : ℕ) → k < 9 → mended_at m k < 2 ^ 64
  mended_lt k l = mended_word_lt (cell_at m k) (cell_fits m k size bytes l)

  third_lt : (n k : ℕ) → k < 9 → third_word_with n m k < 2 ^ 64
  unfolding third_word_with
  third_lt zero k l = mended_lt k l
  third_lt (suc zero) k l = either_lt (mended_at m) k l mended_lt (beyond_at m k)
  third_lt (suc (suc n)) k l = mended_lt k l

  own_word_lt : (n k : ℕ) → k < 9 → own_word_with n m k < 2 ^ 64
  unfolding own_word_with
  own_word_lt zero k l = held_lt k l
  own_word_lt (suc zero) k l = either_lt (held_word m) k l held_lt (is_unsound m k)
  own_word_lt (suc (suc n)) k l = third_lt (count (beyond_at m) 9) k l

  third_kept : (n k : ℕ) → is_unsound m k ≡ false → third_word_with n m k ≡ held_word m k
  unfolding third_word_with
  third_kept zero k e = sound_mended m k e
  third_kept (suc zero) k e = rw (sound_mends m k e) (sound_mended m k e)
  third_kept (suc (suc n)) k e = sound_mended m k e

  own_word_kept : (n k : ℕ) → is_unsound m k ≡ false → own_word_with n m k ≡ held_word m k
  unfolding own_word_with
  own_word_kept zero k e = refl
  own_word_kept (suc zero) k e = rw e
  own_word_kept (suc (suc n)) k e = third_kept (count (beyond_at m) 9) k e

  module _ (e : Evidence) where
    word_lt : (f : Finding) (k : ℕ) → k < 9 → word_with f e m k < 2 ^ 64
    unfolding word_with
    word_lt (Decided o) k l = own_word_lt (count (is_unsound m) 9) k l
    word_lt (Undecided x) k l = either_lt (mended_at m) k l mended_lt (blamed_for e m k)

    -- a chip that holds a codeword keeps its word
    word_kept : (f : Finding) (k : ℕ) → is_unsound m k ≡ false → word_with f e m k ≡ held_word m k
    unfolding word_with blamed_for
    word_kept (Decided o) k s = own_word_kept (count (is_unsound m) 9) k s
    word_kept (Undecided x) k s = rw s (sound_mended m k s)

    -- an answered line holds the words of steps 3 to 5
    pub word_after : (cws : List ℕ) → outcome_of e m cws ≡ Answered → (k : ℕ) → k < 9 → word_at (bytes_after e m cws) k ≡ word_of e m cws k
    unfolding bytes_for written_with word_for
    word_after cws a k l =
        ap (λ (n : List ℕ). word_at n k) (bytes_is m cws e ∙ ap (λ (o : Outcome). if_answered o (written_with (word_for e m) m) m) (sym (outcome_is m cws e) ∙ a))
        ∙ word_chip _ k
        ∙ ap (λ (bs : List ℕ). number_of (take 8 bs)) (chip_joined after nine k l)
        ∙ pick (is_unsound m k) refl
        ∙ sym (word_is m cws e k l)
      where
        after : ℕ → List ℕ
        after j = cond (is_unsound m j) (codeword (word_for e m j)) (chip_at m j)

        nine : (j : ℕ) → j < 9 → length (after j) ≡ 9
        nine j h = either (is_unsound m j)
          where
            either : (b : Bool) → length (cond b (codeword (word_for e m j)) (chip_at m j)) ≡ 9
            either true = length_codeword (word_for e m j)
            either false = length_chip m j size h

        pick : (b : Bool) → is_unsound m k ≡ b → number_of (take 8 (cond b (codeword (word_for e m k)) (chip_at m k))) ≡ word_for e m k
        pick true s = ap number_of (eight_codeword (word_for e m k)) ∙ number_bytes_of 8 (word_for e m k) (word_lt (finding_for m) k l)
        pick false s = sym (word_chip m k) ∙ sym (held_word_lem m k bytes) ∙ sym (word_kept (finding_for m) k s)

-- a visit leaves as many bytes as it found
pub length_after : (e : Evidence) (m cws : List ℕ) → length m ≡ 81 → length (bytes_after e m cws) ≡ 81
unfolding bytes_after written_back with_words
length_after e m cws size =
    either_answered (λ (bs : List ℕ). length bs ≡ 81) (outcome_of e m cws) (length_joined _ 9 9 (λ k l. nine k l (is_flagged m cws k))) size
  where
    nine : (k : ℕ) → k < 9 → (b : Bool) → length (cond b (codeword (word_of e m cws k)) (chip_at m k)) ≡ 9
    nine k l true = length_codeword (word_of e m cws k)
    nine k l false = length_chip m k size l
