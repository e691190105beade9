-- The closed form of a visit. The flagged chips are those that hold no codeword, and the line's bytes alone, with what was counted over the
-- other lines of its row, decide which of them are beyond mending or blamed, the outcome, the words and the bytes after it.
-- Assumes nothing.
use Rattle.std.specs.Prelude.{◌≡◌, Bool, List, eqb}
use Rattle.std.proofs.Math.Path.{refl, ap}
use Rattle.std.proofs.Common.{◌∙◌}
use Rattle.std.proofs.Math.Bool.{true, false, cond}
use Prim.Native.Nat.{ℕ, zero, suc, ◌<◌}
use Rattle.cells.specs.Chips.{count}
use Rattle.cells.specs.Cells.{chip_at, codeword}
use Rattle.cells.specs.ChipLaws.{joined_ext, xor_all_ext, count_ext, count_none}
use Rattle.passes.specs.Passes.{sends, sent_at, pass_one, is_flagged, xor_others, pass_three, is_unsound, held_word, mended_at, beyond_at}
use Rattle.passes.proofs.PassLaws.{sent_word, flagged_is, flagged_count, flagged_beyond_is, beyond_chips_count, others_ext, others_sound}
use Rattle.line.specs.Blame.{Evidence, is_blamed, blamed_chips}
use Rattle.line.specs.ClosedForm.{third_finding_with, third_word_with, finding_with, own_word_with, finding_for, blamed_for, outcome_with, word_with, written_with, outcome_for, word_for, bytes_for}
use Rattle.line.specs.Visit.{must_cancel, third_finding, third_word, finding_by, own_word_by, finding_of, own_word, outcome_by, word_by, outcome_of, word_of, with_words, written_back, bytes_after}
use Rattle.line.specs.declared.Outcome.TheVariants.{Answered, Uncorrectable}
use Rattle.line.specs.declared.Finding.{Finding}
use Rattle.line.specs.declared.Finding.TheVariants.{Decided, Undecided}

module _ (m cws : List ℕ) where
  third_finding_lem : (n : ℕ) → third_finding n m cws ≡ third_finding_with n m
  unfolding third_finding third_finding_with must_cancel pass_three sent_at sends
  third_finding_lem zero = refl
  third_finding_lem (suc zero) = refl
  third_finding_lem (suc (suc n)) = refl

  finding_by_lem : (n : ℕ) → count (is_unsound m) 9 ≡ n → finding_by n m cws ≡ finding_with n m
  unfolding finding_by finding_with must_cancel
  finding_by_lem zero c = rw (xor_all_ext (pass_one m cws) (held_word m) 9 (λ k h. sent_word m cws k (count_none (is_unsound m) 9 c k h)))
  finding_by_lem (suc zero) c = refl
  finding_by_lem (suc (suc n)) c = rw (beyond_chips_count m cws) (third_finding_lem (count (beyond_at m) 9))

  -- the finding is that by the line's bytes alone
  pub finding_is : finding_of m cws ≡ finding_for m
  unfolding finding_of finding_for
  finding_is = rw (flagged_count m cws) (finding_by_lem (count (is_unsound m) 9) refl)

  third_by : (n k : ℕ) → third_word n m cws k ≡ third_word_with n m k
  unfolding third_word third_word_with pass_three sent_at sends
  third_by zero k = refl
  third_by (suc zero) k = rw (flagged_beyond_is m cws k)
  third_by (suc (suc n)) k = refl

  own_word_by_lem : (n : ℕ) → count (is_unsound m) 9 ≡ n → (k : ℕ) → k < 9 → own_word_by n m cws k ≡ own_word_with n m k
  unfolding own_word_by own_word_with
  own_word_by_lem zero c k h = sent_word m cws k (count_none (is_unsound m) 9 c k h)
  own_word_by_lem (suc zero) c k h = rw (flagged_is m cws k) (pick (is_unsound m k) refl)
    where
      pick : (b : Bool) → is_unsound m k ≡ b
          → cond b (xor_others (pass_one m cws) k) (pass_one m cws k) ≡ cond b (xor_others (held_word m) k) (held_word m k)
      pick true e = others_ext (pass_one m cws) (held_word m) k (λ j l ne. sent_word m cws j (others_sound m c k h e j l ne))
      pick false e = sent_word m cws k e
  own_word_by_lem (suc (suc n)) c k h = rw (beyond_chips_count m cws) (third_by (count (beyond_at m) 9) k)

  -- so is chip k's word by them, whether the line is answered or refused
  own_word_is : (k : ℕ) → k < 9 → own_word m cws k ≡ own_word_with (count (is_unsound m) 9) m k
  unfolding own_word
  own_word_is k h = rw (flagged_count m cws) (own_word_by_lem (count (is_unsound m) 9) refl k h)

  module _ (e : Evidence) where
    -- the blamed chip
    pub blamed_is : (k : ℕ) → is_blamed e m cws k ≡ blamed_for e m k
    unfolding is_blamed blamed_for
    blamed_is k = rw (flagged_is m cws k)

    pub blamed_count : blamed_chips e m cws ≡ count (blamed_for e m) 9
    unfolding blamed_chips
    blamed_count = count_ext (is_blamed e m cws) (blamed_for e m) 9 (λ k h. blamed_is k)

    outcome_by_lem : (f : Finding) → outcome_by f e m cws ≡ outcome_with f e m
    unfolding outcome_by outcome_with
    outcome_by_lem (Decided o) = refl
    outcome_by_lem (Undecided x) = ap (λ (n : ℕ). cond (eqb n 0) Uncorrectable Answered) blamed_count

    -- the outcome
    pub outcome_is : outcome_of e m cws ≡ outcome_for e m
    unfolding outcome_of outcome_for
    outcome_is = ap (λ (f : Finding). outcome_by f e m cws) finding_is ∙ outcome_by_lem (finding_for m)

    word_by_lem : (f : Finding) (k : ℕ) → k < 9 → word_by f e m cws k ≡ word_with f e m k
    unfolding word_by word_with pass_three sent_at sends
    word_by_lem (Decided o) k h = own_word_is k h
    word_by_lem (Undecided x) k h = ap (λ (b : Bool). cond b (xor_others (mended_at m) k) (mended_at m k)) (blamed_is k)

    -- chip k's word, whether the line is answered or refused
    pub word_is : (k : ℕ) → k < 9 → word_of e m cws k ≡ word_for e m k
    unfolding word_of word_for
    word_is k h = ap (λ (f : Finding). word_by f e m cws k) finding_is ∙ word_by_lem (finding_for m) k h

    written_is : (k : ℕ) → k < 9
        → cond (is_flagged m cws k) (codeword (word_of e m cws k)) (chip_at m k) ≡ cond (is_unsound m k) (codeword (word_for e m k)) (chip_at m k)
    written_is k h = rw (flagged_is m cws k, word_is k h)

    written_by : written_back e m cws ≡ written_with (word_for e m) m
    unfolding written_back with_words written_with
    written_by = joined_ext _ _ 9 written_is

    -- the bytes after the visit
    pub bytes_is : bytes_after e m cws ≡ bytes_for e m
    unfolding bytes_after bytes_for
    bytes_is = rw (outcome_is, written_by)
