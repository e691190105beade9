-- What a visit does not take from the catch-words: by the same evidence, outcome, words, bytes and flagged chips are the same for any. They
-- decide the collisions, and with them whether pass two is made. m is any list.
-- Assumes nothing.
use Rattle.std.specs.Prelude.{◌≡◌, ◌||◌, List, ℕ, ◌+◌, ◌<◌, ltb}
use Rattle.std.proofs.Common.{sym, ◌∙◌}
use Rattle.cells.specs.Chips.{bit, count, mask}
use Rattle.cells.specs.ChipLaws.{count_ext}
use Rattle.passes.specs.Passes.{is_candidate, is_flagged, is_unsound, holds_catch_word}
use Rattle.passes.proofs.PassLaws.{candidate_is, flagged_mask_lem, flagged_count}
use Rattle.line.specs.Blame.{Evidence}
use Rattle.line.specs.Visit.{outcome_of, word_of, bytes_after, own_passes}
use Rattle.line.proofs.ClosedFormLaws.{outcome_is, word_is, bytes_is}

-- ---- two lists of catch-words

module _ (e : Evidence) (m c d : List ℕ) where
  -- the outcome is the same for both
  pub outcome_free : outcome_of e m c ≡ outcome_of e m d
  outcome_free = outcome_is m c e ∙ sym (outcome_is m d e)

  -- so is each chip's word
  pub word_free : (k : ℕ) → k < 9 → word_of e m c k ≡ word_of e m d k
  word_free k h = word_is m c e k h ∙ sym (word_is m d e k h)

  -- so are the bytes after the visit
  pub bytes_free : bytes_after e m c ≡ bytes_after e m d
  bytes_free = bytes_is m c e ∙ sym (bytes_is m d e)

  -- so is the mask of the flagged chips
  pub flagged_free : mask (is_flagged m c) 9 ≡ mask (is_flagged m d) 9
  flagged_free = flagged_mask_lem m c ∙ sym (flagged_mask_lem m d)

-- ---- the passes over the line itself

-- pass two is made if a chip holds no codeword or its catch-word, pass three if two or more hold no codeword
pub passes_is : (m cws : List ℕ)
    → own_passes m cws ≡ 1 + bit (ltb 0 (count (λ k. is_unsound m k || holds_catch_word m cws k) 9)) + bit (ltb 1 (count (is_unsound m) 9))
unfolding own_passes
passes_is m cws = rw (flagged_count m cws, count_ext (is_candidate m cws) (λ k. is_unsound m k || holds_catch_word m cws k) 9 (λ k _. candidate_is m cws k))
