-- A visit to a line that was stored and then damaged by patterns that are tolerated. The chips whose pattern is not zero are flagged. By its own
-- bytes the line is answered with the words that were stored, and its bytes are again those that were stored, or it is left undecided. Then it
-- is answered so if the chip with the wide pattern is blamed, and if no chip is, it is refused with 21 and its bytes stay.
-- Assumes nothing.
use Rattle.std.specs.Prelude.{◌≡◌, ◌≢◌, ◌⊎◌, Bool, List, ltb, length}
use Rattle.std.proofs.Math.Path.{refl, ap}
use Rattle.std.proofs.Common.{sym, ◌∙◌, subst, inl, inr, true≢false, arith}
use Rattle.std.proofs.Math.Bool.{true, false, not, cond}
use Prim.Native.Nat.{ℕ, zero, suc, ◌/◌, ◌<◌, ◌≤◌}
use Rattle.std.specs.Int.Bits.{bit_xor, xor_zero_r}
use Rattle.std.specs.Int.Count.{ones}
use Rattle.std.proofs.Math.Dec.{eqb}
use borrow.Author.Tests.{eq-eqb, ne_eqb, eqb-true, eqb-false, ltb-true, ltb-false, not-false}
use Rattle.code.specs.Code.{cell, check_of, syndrome_of, is_codeword, mended_word, status_of, is_beyond}
use Rattle.code.proofs.CodeLaws.{cell_word, check_lt, check_makes, codeword_damaged, syndrome_zero, syndrome_codeword}
use Rattle.code.proofs.MendLaws.{mended_word_damaged, mended_word_narrow}
use Rattle.code.proofs.StatusLaws.{status_damaged, beyond_wide}
use Rattle.words.specs.Bytes.{Bytes, number_of, xor_bytes}
use Rattle.words.specs.ByteLaws.{zeros_only, xor_zeros}
use Rattle.cells.specs.Chips.{xor_all, count}
use Rattle.cells.specs.ChipLaws.{joined_ext, xor_all_ext, xor_all_xor, xor_all_zero, xor_all_few, count_ext, count_none, count_zero, count_some, count_few, count_found}
use Rattle.cells.specs.Cells.{cell_at, chip_at, codeword, line_word, stored, line_of}
use Rattle.cells.specs.CellLaws.{length_codeword, line_stored}
use Rattle.passes.specs.Passes.{is_flagged, xor_others, chip_status, beyond_chips, is_unsound, held_word, mended_at, beyond_at}
use Rattle.passes.proofs.PassLaws.{flagged_is, others_ext, others_cancel, others_sound, beyond_chips_count}
use Rattle.line.specs.Blame.{Evidence, is_blamed, blamed_chips}
use Rattle.line.specs.BlameLaws.{blamed_one}
use Rattle.line.specs.Restores.{Restores}
use Rattle.line.specs.Visit.{must_cancel, outcome_of, if_answered, written_back, bytes_after}
use Rattle.line.specs.Damage.{damaged, Parity, Tolerated, damaged_patterns, Answerable, few_damaged, all_undone, some_beyond, LeftUndecided}
use Rattle.line.specs.ClosedForm.{third_finding_with, third_word_with, finding_with, own_word_with, blamed_for, outcome_with, word_with, written_with, finding_for, outcome_for, word_for, bytes_for}
use Rattle.line.proofs.ClosedFormLaws.{blamed_is, blamed_count, outcome_is, word_is, bytes_is}
use Rattle.line.specs.DamageLaws.{chip_damaged, cell_damaged, line_parity}
use Rattle.line.specs.declared.Outcome.{Outcome}
use Rattle.line.specs.declared.Outcome.TheVariants.{Answered, Uncorrectable}
use Rattle.line.specs.declared.Finding.{Finding}
use Rattle.line.specs.declared.Finding.TheVariants.{Decided, Undecided}

-- ---- the patterns

module _ (p : ℕ → ℕ) (t : Tolerated p) where
  abbrev is_beyond_at : ℕ → Bool
  is_beyond_at k = is_beyond (status_of (p k))

  abbrev remains_at : ℕ → Bool
  remains_at k = not (eqb (mended_word (p k)) 0)

  -- zero alone among them is a codeword
  pub tolerated_codeword : (k : ℕ) → k < 9 → is_codeword (p k) ≡ eqb (p k) 0
  tolerated_codeword k h = pick (is_codeword (p k)) refl
    where
      pick : (b : Bool) → is_codeword (p k) ≡ b → b ≡ eqb (p k) 0
      pick true e = sym (eq-eqb (p k) 0 (t.detected k h e))
      pick false e = sym (ne_eqb (p k) 0 (λ z. true≢false (sym (syndrome_codeword (p k) (ap syndrome_of z ∙ syndrome_zero)) ∙ e)))

  -- M of a pattern with no more than one bit set is the zero word
  remains_wide : (k : ℕ) → k < 9 → mended_word (p k) ≢ 0 → 1 < ones (p k)
  remains_wide k h r = by (ltb 1 (ones (p k))) refl
    where
      by : (b : Bool) → ltb 1 (ones (p k)) ≡ b → 1 < ones (p k)
      by true e = ltb-true 1 (ones (p k)) e
      by false e = absurd (r (mended_word_narrow (p k) (t.fit k h) (ltb-false 1 (ones (p k)) e)))

  -- a pattern beyond mending has more than one bit set
  is_wide : (k : ℕ) → k < 9 → is_beyond_at k ≡ true → 1 < ones (p k)
  is_wide k h e = ltb-true 1 (ones (p k)) (beyond_wide (p k) (t.fit k h) e)

  -- no more than one is beyond mending
  pub tolerated_beyond : count is_beyond_at 9 ≤ 1
  tolerated_beyond = count_few is_beyond_at 9 (λ j k hj hk ej ek. t.one_wide j k hj hk (is_wide j hj ej) (is_wide k hk ek))

  -- M of no more than one is another than the zero word
  few_remain : count remains_at 9 ≤ 1
  few_remain =
      count_few remains_at 9
      (λ j k hj hk ej ek. t.one_wide j k hj hk (remains_wide j hj (remains j ej)) (remains_wide k hk (remains k ek)))
    where
      remains : (k : ℕ) → remains_at k ≡ true → mended_word (p k) ≢ 0
      remains k e z = true≢false (sym e ∙ ap not (eq-eqb (mended_word (p k)) 0 z))

  -- the line is answerable or left undecided
  pub tolerated_ends : Answerable p ⊎ LeftUndecided p
  tolerated_ends = by_damages (ltb 1 (damaged_patterns p)) refl
    where
      by_word : 1 < damaged_patterns p → count is_beyond_at 9 ≡ 0 → (n : ℕ) → count remains_at 9 ≡ n → Answerable p ⊎ LeftUndecided p
      by_word l c zero e =
          inl (all_undone (λ k h. eqb-true (mended_word (p k)) 0 (not-false (eqb (mended_word (p k)) 0) (count_none remains_at 9 e k h))))
      by_word l c (suc n) e =
          let f = count_found remains_at 9 (omega (arith, e)) in
          inr (record {
            several = l;
            chip = f.0;
            below = f.1.0;
            remains = λ z. true≢false (sym f.1.1 ∙ ap not (eq-eqb (mended_word (p f.0)) 0 z));
            none_beyond = count_none is_beyond_at 9 c;
          })

      by_beyond : 1 < damaged_patterns p → (n : ℕ) → count is_beyond_at 9 ≡ n → Answerable p ⊎ LeftUndecided p
      by_beyond l zero e = by_word l e (count remains_at 9) refl
      by_beyond l (suc n) e = let f = count_found is_beyond_at 9 (omega (arith, e)) in inl (some_beyond f.0 f.1.0 f.1.1)

      by_damages : (b : Bool) → ltb 1 (damaged_patterns p) ≡ b → Answerable p ⊎ LeftUndecided p
      by_damages true e = by_beyond (ltb-true 1 (damaged_patterns p) e) (count is_beyond_at 9) refl
      by_damages false e = inl (few_damaged (ltb-false 1 (damaged_patterns p) e))

-- beside a wide pattern M of every other is the zero word
narrow_undone : (p : ℕ → ℕ) → Tolerated p → (j k : ℕ) → j < 9 → k < 9 → 1 < ones (p k) → j ≢ k → mended_word (p j) ≡ 0
narrow_undone p t j k hj hk wide ne = by (eqb (mended_word (p j)) 0) refl
  where
    by : (b : Bool) → eqb (mended_word (p j)) 0 ≡ b → mended_word (p j) ≡ 0
    by true z = eqb-true (mended_word (p j)) 0 z
    by false z = absurd (ne (t.one_wide j k hj hk (remains_wide p t j hj (eqb-false (mended_word (p j)) 0 z)) wide))

laid_word : (x : ℕ) → cell x (check_of x) / 256 ≡ x
laid_word x = cell_word x (check_of x) (check_lt x)

-- ---- the visit, to a line of which is known what stands in each chip

module _ (m : List ℕ) (w p : ℕ → ℕ) (par : Parity w) (t : Tolerated p)
    (at : (k : ℕ) → k < 9 → cell_at m k ≡ bit_xor (cell (w k) (check_of (w k))) (p k))
    (undamaged : (k : ℕ) → k < 9 → p k ≡ 0 → chip_at m k ≡ codeword (w k)) where
  -- the chips that hold no codeword are the damaged ones
  pub unsound_damaged : (k : ℕ) → k < 9 → is_unsound m k ≡ not (eqb (p k) 0)
  unfolding is_unsound
  unsound_damaged k h =
      ap not (ap is_codeword (at k h) ∙ codeword_damaged (cell (w k) (check_of (w k))) (p k) (check_makes (w k)) ∙ tolerated_codeword p t k h)

  unsound_count : count (is_unsound m) 9 ≡ damaged_patterns p
  unfolding damaged_patterns
  unsound_count = count_ext (is_unsound m) (λ k. not (eqb (p k) 0)) 9 unsound_damaged

  sound_zero : (k : ℕ) → k < 9 → is_unsound m k ≡ false → p k ≡ 0
  sound_zero k h e = eqb-true (p k) 0 (not-false (eqb (p k) 0) (sym (unsound_damaged k h) ∙ e))

  -- a chip that holds a codeword holds its word
  sound_word : (k : ℕ) → k < 9 → is_unsound m k ≡ false → held_word m k ≡ w k
  sound_word k h e =
      ap (λ (x : ℕ). x / 256) (at k h ∙ ap (bit_xor (cell (w k) (check_of (w k)))) (sound_zero k h e) ∙ xor_zero_r _) ∙ laid_word (w k)

  -- mending a chip leaves its word xor M of its pattern
  mended_word_lem : (k : ℕ) → k < 9 → mended_at m k ≡ bit_xor (w k) (mended_word (p k))
  mended_word_lem k h =
      ap mended_word (at k h) ∙ mended_word_damaged (cell (w k) (check_of (w k))) (p k) (check_makes (w k))
      ∙ ap (λ (x : ℕ). bit_xor x (mended_word (p k))) (laid_word (w k))

  mended_stored : (k : ℕ) → k < 9 → mended_word (p k) ≡ 0 → mended_at m k ≡ w k
  mended_stored k h e = mended_word_lem k h ∙ ap (bit_xor (w k)) e ∙ xor_zero_r (w k)

  mended_xor : xor_all (mended_at m) 9 ≡ xor_all (λ k. mended_word (p k)) 9
  mended_xor =
      xor_all_ext (mended_at m) (λ k. bit_xor (w k) (mended_word (p k))) 9 mended_word_lem ∙ xor_all_xor w (λ k. mended_word (p k)) 9
      ∙ ap (λ (x : ℕ). bit_xor x (xor_all (λ k. mended_word (p k)) 9)) par.sum

  beyond_damaged : (k : ℕ) → k < 9 → beyond_at m k ≡ is_beyond (status_of (p k))
  unfolding chip_status
  beyond_damaged k h =
      ap is_beyond (ap status_of (at k h) ∙ status_damaged (cell (w k) (check_of (w k))) (p k) (check_makes (w k)))

  pub beyond_count : count (beyond_at m) 9 ≡ count (is_beyond_at p t) 9
  beyond_count = count_ext (beyond_at m) (is_beyond_at p t) 9 beyond_damaged

  few_beyond : count (beyond_at m) 9 ≤ 1
  few_beyond = subst (λ (n : ℕ). n ≤ 1) (sym beyond_count) (tolerated_beyond p t)

  -- two or more chips are damaged
  module _ (several : 1 < damaged_patterns p) where
    third_answered : Answerable p → (n : ℕ) → count (beyond_at m) 9 ≡ n → third_finding_with n m ≡ Decided Answered
    unfolding third_finding_with must_cancel
    third_answered (few_damaged l) n c = absurd (omega (arith, several, l))
    third_answered (all_undone u) zero c = rw (mended_xor ∙ xor_all_zero _ 9 u)
    third_answered (all_undone u) (suc zero) c = refl
    third_answered (all_undone u) (suc (suc n)) c = absurd (omega (arith, few_beyond))
    third_answered (some_beyond k h e) zero c = absurd (omega (arith, count_some (beyond_at m) 9 k h (beyond_damaged k h ∙ e)))
    third_answered (some_beyond k h e) (suc zero) c = refl
    third_answered (some_beyond k h e) (suc (suc n)) c = absurd (omega (arith, few_beyond))

    -- M of a pattern that is not beyond mending is the zero word
    own_undone : Answerable p → (k : ℕ) → k < 9 → beyond_at m k ≡ false → mended_word (p k) ≡ 0
    own_undone (few_damaged l) k h f = absurd (omega (arith, several, l))
    own_undone (all_undone u) k h f = u k h
    own_undone (some_beyond i hi e) k h f =
        narrow_undone p t k i h hi (is_wide p t i hi e) (λ (s : k ≡ i). true≢false (sym (beyond_damaged k h ∙ ap (λ (j : ℕ). is_beyond (status_of (p j))) s ∙ e) ∙ f))

    third_word_lem : Answerable p → (n : ℕ) → count (beyond_at m) 9 ≡ n → (k : ℕ) → k < 9 → third_word_with n m k ≡ w k
    unfolding third_word_with
    third_word_lem a zero c k h = mended_stored k h (own_undone a k h (count_none (beyond_at m) 9 c k h))
    third_word_lem a (suc zero) c k h = pick (beyond_at m k) refl
      where
        pick : (b : Bool) → beyond_at m k ≡ b → cond b (xor_others (mended_at m) k) (mended_at m k) ≡ w k
        pick true e =
            others_ext (mended_at m) w k (λ j l ne. mended_stored j l (narrow_undone p t j k l h (is_wide p t k h (sym (beyond_damaged k h) ∙ e)) ne))
            ∙ others_cancel w par.sum k h
        pick false e = mended_stored k h (own_undone a k h e)
    third_word_lem a (suc (suc n)) c k h = absurd (omega (arith, few_beyond))

  answered_with : Answerable p → (n : ℕ) → count (is_unsound m) 9 ≡ n → finding_with n m ≡ Decided Answered
  unfolding finding_with must_cancel
  answered_with a zero c = rw (xor_all_ext (held_word m) w 9 (λ k h. sound_word k h (count_none (is_unsound m) 9 c k h)) ∙ par.sum)
  answered_with a (suc zero) c = refl
  answered_with a (suc (suc n)) c = third_answered (omega (arith, c, unsound_count)) a (count (beyond_at m) 9) refl

  undecided_with : LeftUndecided p → (n : ℕ) → count (is_unsound m) 9 ≡ n → finding_with n m ≡ Undecided (xor_all (mended_at m) 9)
  unfolding finding_with third_finding_with must_cancel
  undecided_with r zero c = absurd (omega (arith, r.several, c, unsound_count))
  undecided_with r (suc zero) c = absurd (omega (arith, r.several, c, unsound_count))
  undecided_with r (suc (suc n)) c =
      let none : count (beyond_at m) 9 ≡ 0 = count_zero (beyond_at m) 9 (λ k h. beyond_damaged k h ∙ r.none_beyond k h) in
      let one : 1 ≤ count (remains_at p t) 9 = count_some (remains_at p t) 9 r.chip r.below (ap not (ne_eqb (mended_word (p r.chip)) 0 r.remains)) in
      let not_zero : eqb (xor_all (mended_at m) 9) 0 ≡ false =
      ap (λ (x : ℕ). eqb x 0) mended_xor ∙ xor_all_few (λ k. mended_word (p k)) 9 (few_remain p t) ∙ ne_eqb (count (remains_at p t) 9) 0 (λ z. omega (arith, one, z)) in
      rw (none, not_zero)

  word_with_lem : Answerable p → (n : ℕ) → count (is_unsound m) 9 ≡ n → (k : ℕ) → k < 9 → own_word_with n m k ≡ w k
  unfolding own_word_with
  word_with_lem a zero c k h = sound_word k h (count_none (is_unsound m) 9 c k h)
  word_with_lem a (suc zero) c k h = pick (is_unsound m k) refl
    where
      pick : (b : Bool) → is_unsound m k ≡ b → cond b (xor_others (held_word m) k) (held_word m k) ≡ w k
      pick true e = others_ext (held_word m) w k (λ j l ne. sound_word j l (others_sound m c k h e j l ne)) ∙ others_cancel w par.sum k h
      pick false e = sound_word k h e
  word_with_lem a (suc (suc n)) c k h = third_word_lem (omega (arith, c, unsound_count)) a (count (beyond_at m) 9) refl k h

  module _ (e : Evidence) where
    -- an outcome and words
    record Answers : Type 0 where
      outcome : outcome_for e m ≡ Answered
      words : (k : ℕ) → k < 9 → word_for e m k ≡ w k

    -- by the line's own bytes
    own_answers : Answerable p → Answers
    unfolding outcome_for word_for finding_for outcome_with word_with
    own_answers a =
        let found : finding_for m ≡ Decided Answered = answered_with a (count (is_unsound m) 9) refl in
        record {
          outcome = ap (λ (f : Finding). outcome_with f e m) found;
          words = λ k h. ap (λ (f : Finding). word_with f e m k) found ∙ word_with_lem a (count (is_unsound m) 9) refl k h;
        }

    undecided : LeftUndecided p → finding_for m ≡ Undecided (xor_all (mended_at m) 9)
    unfolding finding_for
    undecided r = undecided_with r (count (is_unsound m) 9) refl

    -- by the diagnosis: chip k alone is blamed, and its pattern is the wide one
    blamed_answers : LeftUndecided p → (k : ℕ) → k < 9 → 1 < ones (p k) → blamed_for e m k ≡ true → ((j : ℕ) → j < 9 → j ≢ k → blamed_for e m j ≡ false) → Answers
    unfolding outcome_for word_for outcome_with word_with
    blamed_answers r k h wide b others =
        record {
          outcome =
              ap (λ (f : Finding). outcome_with f e m) (undecided r)
              ∙ ap (λ (t : Bool). cond t Uncorrectable Answered)
              (ne_eqb (count (blamed_for e m) 9) 0 (λ z. omega (arith, count_some (blamed_for e m) 9 k h b, z)));
          words = λ j l. ap (λ (f : Finding). word_with f e m j) (undecided r) ∙ pick j l (eqb j k) refl;
        }
      where
        -- M of every other pattern is the zero word
        narrow : (j : ℕ) → j < 9 → j ≢ k → mended_at m j ≡ w j
        narrow j l ne = mended_stored j l (narrow_undone p t j k l h wide ne)

        pick : (j : ℕ) → j < 9 → (c : Bool) → eqb j k ≡ c → cond (blamed_for e m j) (xor_others (mended_at m) j) (mended_at m j) ≡ w j
        pick j l true q =
            let same : j ≡ k = eqb-true j k q in
            rw (ap (blamed_for e m) same ∙ b)
            (others_ext (mended_at m) w j (λ i g ne. narrow i g (λ s. ne (s ∙ sym same))) ∙ others_cancel w par.sum j l)
        pick j l false q = rw (others j l (eqb-false j k q)) (narrow j l (eqb-false j k q))

    written_for : Answers → written_with (word_for e m) m ≡ stored w
    unfolding written_with stored
    written_for a = joined_ext _ (λ k. codeword (w k)) 9 (λ k h. pick k h (is_unsound m k) refl)
      where
        pick : (k : ℕ) → k < 9 → (b : Bool) → is_unsound m k ≡ b → cond b (codeword (word_for e m k)) (chip_at m k) ≡ codeword (w k)
        pick k h true s = ap codeword (a.words k h)
        pick k h false s = undamaged k h (sound_zero k h s)

    module _ (cws : List ℕ) where
      -- either way
      step_answers : Answers → Restores m w e cws
      unfolding bytes_for
      step_answers a =
          let answered : outcome_of e m cws ≡ Answered = outcome_is m cws e ∙ a.outcome in
          record {
            answered = answered;
            word = λ k h. word_is m cws e k h ∙ a.words k h;
            stored_again =
                bytes_is m cws e ∙ ap (λ (o : Outcome). if_answered o (written_with (word_for e m) m) m) a.outcome ∙ written_for a;
          }

      diagnosed : LeftUndecided p → (k : ℕ) → k < 9 → 1 < ones (p k) → is_blamed e m cws k ≡ true → Answers
      diagnosed r k h wide b =
          blamed_answers r k h wide (sym (blamed_is m cws e k) ∙ b) (λ j l ne. sym (blamed_is m cws e j) ∙ not_blamed_lem j l ne (is_blamed e m cws j) refl)
        where
          not_blamed_lem : (j : ℕ) → j < 9 → j ≢ k → (c : Bool) → is_blamed e m cws j ≡ c → c ≡ false
          not_blamed_lem j l ne true q = absurd (ne (blamed_one e m cws j k l h q b))
          not_blamed_lem j l ne false q = refl

      step_refuses : LeftUndecided p → blamed_chips e m cws ≡ 0 → outcome_of e m cws ≡ Uncorrectable
      unfolding outcome_for outcome_with
      step_refuses r z =
          outcome_is m cws e
          ∙ ap (λ (f : Finding). outcome_with f e m) (undecided r)
          ∙ ap (λ (n : ℕ). cond (eqb n 0) Uncorrectable Answered) (sym (blamed_count m cws e) ∙ z)

-- ---- the same for the bytes of nine codewords, each xored with its chip's pattern

module _ (w : ℕ → ℕ) (q : ℕ → List ℕ) (par : Parity w) (nine : (k : ℕ) → k < 9 → length (q k) ≡ 9) (bytes : (k : ℕ) → k < 9 → Bytes (q k))
    (t : Tolerated (λ k. number_of (q k))) where
  cells : (k : ℕ) → k < 9 → cell_at (damaged w q) k ≡ bit_xor (cell (w k) (check_of (w k))) (number_of (q k))
  cells k l = cell_damaged w q nine k l (par.fit k l) (bytes k l)

  undamaged_chip : (k : ℕ) → k < 9 → number_of (q k) ≡ 0 → chip_at (damaged w q) k ≡ codeword (w k)
  undamaged_chip k l e =
      chip_damaged w q nine k l ∙ ap (xor_bytes (codeword (w k))) (zeros_only (q k) 9 (bytes k l) (nine k l) e)
      ∙ xor_zeros (codeword (w k)) 9 (length_codeword (w k))

  module _ (e : Evidence) (cws : List ℕ) where
    -- an answerable line is answered
    pub visit_answers : Answerable (λ k. number_of (q k)) → Restores (damaged w q) w e cws
    visit_answers a =
        step_answers (damaged w q) w (λ k. number_of (q k)) par t cells undamaged_chip e cws
        (own_answers (damaged w q) w (λ k. number_of (q k)) par t cells undamaged_chip e a)

    -- so is one that is left undecided, if the chip with the wide pattern is blamed
    pub visit_diagnosed : LeftUndecided (λ k. number_of (q k)) → (k : ℕ) → k < 9 → 1 < ones (number_of (q k)) → is_blamed e (damaged w q) cws k ≡ true
        → Restores (damaged w q) w e cws
    visit_diagnosed r k h wide b =
        step_answers (damaged w q) w (λ k. number_of (q k)) par t cells undamaged_chip e cws
        (diagnosed (damaged w q) w (λ k. number_of (q k)) par t cells undamaged_chip e cws r k h wide b)

    -- if no chip is, it is refused with 21
    pub visit_refuses : LeftUndecided (λ k. number_of (q k)) → blamed_chips e (damaged w q) cws ≡ 0 → outcome_of e (damaged w q) cws ≡ Uncorrectable
    visit_refuses = step_refuses (damaged w q) w (λ k. number_of (q k)) par t cells undamaged_chip e cws

    -- and its bytes stay
    pub visit_kept : LeftUndecided (λ k. number_of (q k)) → blamed_chips e (damaged w q) cws ≡ 0 → bytes_after e (damaged w q) cws ≡ damaged w q
    unfolding bytes_after
    visit_kept r z = ap (λ (o : Outcome). if_answered o (written_back e (damaged w q) cws) (damaged w q)) (visit_refuses r z)

  module _ (cws : List ℕ) where
    -- no more than one flagged chip is beyond mending
    pub visit_beyond : beyond_chips (damaged w q) cws ≤ 1
    visit_beyond =
        subst (λ (n : ℕ). n ≤ 1)
        (sym (beyond_chips_count (damaged w q) cws ∙ beyond_count (damaged w q) w (λ k. number_of (q k)) par t cells undamaged_chip))
        (tolerated_beyond (λ k. number_of (q k)) t)

    -- the flagged chips are the damaged ones
    pub visit_flagged : (k : ℕ) → k < 9 → is_flagged (damaged w q) cws k ≡ not (eqb (number_of (q k)) 0)
    visit_flagged k l =
        flagged_is (damaged w q) cws k ∙ unsound_damaged (damaged w q) w (λ k. number_of (q k)) par t cells undamaged_chip k l

-- the 64 bytes that were laid are read from an answered line
pub line_answered : (d : List ℕ) → length d ≡ 64 → Bytes d → (q : ℕ → List ℕ) → ((k : ℕ) → k < 9 → length (q k) ≡ 9) → ((k : ℕ) → k < 9 → Bytes (q k))
    → Tolerated (λ k. number_of (q k)) → Answerable (λ k. number_of (q k)) → (e : Evidence) (cws : List ℕ) → line_of (bytes_after e (damaged (line_word d) q) cws) ≡ d
line_answered d size bytes q nine fits t a e cws =
    ap line_of (visit_answers (line_word d) q (line_parity d size bytes) nine fits t e cws a).stored_again ∙ line_stored d size bytes

-- ---- a line that is damaged in whatever way: the flagged chips are those whose pattern is no codeword

pub damaged_flagged : (w : ℕ → ℕ) (q : ℕ → List ℕ) → Parity w → ((k : ℕ) → k < 9 → length (q k) ≡ 9) → ((k : ℕ) → k < 9 → Bytes (q k)) → (cws : List ℕ)
    → (k : ℕ) → k < 9 → is_flagged (damaged w q) cws k ≡ not (is_codeword (number_of (q k)))
unfolding is_unsound
damaged_flagged w q par nine bytes cws k l =
    flagged_is (damaged w q) cws k
    ∙ ap not
    (ap is_codeword (cell_damaged w q nine k l (par.fit k l) (bytes k l))
    ∙ codeword_damaged (cell (w k) (check_of (w k))) (number_of (q k)) (check_makes (w k)))
