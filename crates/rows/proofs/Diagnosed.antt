-- What the steps of a diagnosis come to, as the code makes them. m stands for the wanted line's bytes, cws for the catch-words, and e for what
-- was counted over the other lines of its row. Assumes nothing.
use mathlib.Core.Path.{◌≡◌, refl, sym, ap, ap₂, ◌∙◌, subst⁻¹}
use mathlib.Core.Logic.{◌≢◌}
use mathlib.Core.Bool.{Bool, true, false, ◌&&◌, cond, true≢false}
use mathlib.Core.List.{List}
use Prim.Native.Nat.{ℕ, ◌+◌, ◌-◌, ◌*◌, ◌^◌, ◌≤◌, ◌<◌, min}
use native.Mathlib.Decide.{ℕ_discrete}
use native.Mathlib.Nat.{le_antisymm}
use native.Mathlib.Omega.{arith}
use lib.Bits.{bit_and, bit_xor}
use lib.Count.{ones, count_trailing_zeros}
use lib.Dec.{eqb, leb}
use lib.ListN.{get_or}
use Rattle.std.specs.Prelude.{Option, Some, None, IfSome}
use Rattle.std.proofs.lemmas.Bool.{false_from_ne_true}
use borrow.Author.Tests.{eq-eqb, ne_eqb, eqb-true, eqb-false}
use Rattle.code.specs.TestLaws.{and_first, and_second}
use Rattle.code.specs.XorLaws.{xor_cancel_r}
use Rattle.code.specs.Lists.{up_from, without, sum_of}
use Rattle.cells.specs.Chips.{of_chips, xor_all, bit, count, mask, AtPlaces}
use Rattle.cells.specs.ChipLaws.{get_d_of_chips, mask_ext, mask_zero, mask_lt, mask_count, count_mask, count_none, count_some, count_one, count_few, ones_mask, and_masks, in_mask_lem, xor_all_but}
use Rattle.cells.specs.MaskLaws.{TakenOff, lowest_chip}
use Rattle.passes.specs.Passes.{is_flagged, xor_others, pass_three}
use Rattle.line.specs.Blame.{Evidence, reaches, is_blamed, blamed_chips, Blamed}
use Rattle.line.specs.BlameLaws.{reaches_true, reaches_false, le_reaches, blamed_flagged, who_is_blamed, blamed_one}
use Rattle.line.specs.Found.{ChecksAt, ChecksIfAnswered}
use Rattle.line.specs.Visit.{outcome_by, word_by, if_answered}
use Rattle.line.specs.declared.Outcome.{Outcome}
use Rattle.line.specs.declared.Outcome.TheVariants.{Answered, Uncorrectable}
use Rattle.line.specs.declared.Finding.TheVariants.{Undecided}
use Rattle.memory.specs.Lines.{line_at}
use Rattle.cells.specs.declared.places.Places.{Places}
use Rattle.rows.specs.Blamed.{IsLowest, IsPut, IsRebuilt}
use Rattle.rows.specs.Rows.{row_first, row_size, other_lines, evidence_of}
use Rattle.rows.proofs.RowLaws.{others_size, others_few}
use Rattle.line.proofs.Places.{placed_set, checked_set}

module _ (e : Evidence) (m cws : List ℕ) where
  -- ---- the mask of the blamed chip

  -- one chip alone reaches
  one_reaches : (k : ℕ) → k < 9 → is_blamed e m cws k ≡ true → count (reaches e) 9 ≡ 1
  one_reaches k l b = le_antisymm (count_few (reaches e) 9 (λ i j hi hj ri rj. same i hi ri ∙ sym (same j hj rj))) (count_some (reaches e) 9 k l reached)
    where
      told : Blamed e m cws k
      told = (who_is_blamed e m cws k).0 b

      reached : reaches e k ≡ true
      reached = le_reaches e k told.reached

      same : (j : ℕ) → j < 9 → reaches e j ≡ true → j ≡ k
      same j h r = by (ℕ_discrete j k)
        where
          by : Dec (j ≡ k) → j ≡ k
          by (yes q) = q
          by (no ne) = absurd (omega (arith, told.alone j h ne, reaches_true e j r))

  -- where one chip alone reaches, and there is another line, the blamed chip is that one if it is flagged
  blamed_by : e.others ≢ 0 → count (reaches e) 9 ≡ 1 → (k : ℕ) → k < 9 → (is_flagged m cws k && reaches e k) ≡ is_blamed e m cws k
  blamed_by some one k l = by (is_flagged m cws k && reaches e k) refl (is_blamed e m cws k) refl
    where
      alone : reaches e k ≡ true → (j : ℕ) → j < 9 → j ≢ k → 10 * e.flagged_words j < e.others
      alone r j h ne = not_reached (reaches e j) refl
        where
          not_reached : (b : Bool) → reaches e j ≡ b → 10 * e.flagged_words j < e.others
          not_reached true q = absurd (ne (count_one (reaches e) 9 (omega (arith, one)) j k h l q r))
          not_reached false q = reaches_false e j q

      by : (a : Bool) → (is_flagged m cws k && reaches e k) ≡ a → (b : Bool) → is_blamed e m cws k ≡ b → a ≡ b
      by true p true q = refl
      by false p false q = refl
      by true p false q =
          let r = and_second (is_flagged m cws k) (reaches e k) p in
          let blamed = (who_is_blamed e m cws k).1 (record { flagged = and_first (is_flagged m cws k) (reaches e k) p; reached = reaches_true e k r; another = omega (arith, some); alone = alone r }) in
          sym blamed ∙ q
      by false p true q =
          let told = (who_is_blamed e m cws k).0 q in
          sym p ∙ ap₂ ◌&&◌ told.flagged (le_reaches e k told.reached)

  pub blamed_mask : cond (eqb e.others 0) 0 (cond (eqb (ones (mask (reaches e) 9)) 1) (bit_and (mask (is_flagged m cws) 9) (mask (reaches e) 9)) 0)
      ≡ mask (is_blamed e m cws) 9
  blamed_mask = by (eqb e.others 0) refl (eqb (ones (mask (reaches e) 9)) 1) refl
    where
      -- nobody is blamed where that can't be
      nobody : ((k : ℕ) → k < 9 → is_blamed e m cws k ≡ true → ⊥) → 0 ≡ mask (is_blamed e m cws) 9
      nobody h = sym (mask_zero (is_blamed e m cws) 9 (λ k l. none k l (is_blamed e m cws k) refl))
        where
          none : (k : ℕ) → k < 9 → (b : Bool) → is_blamed e m cws k ≡ b → is_blamed e m cws k ≡ false
          none k l true q = absurd (h k l q)
          none k l false q = q

      by : (a : Bool) → eqb e.others 0 ≡ a → (b : Bool) → eqb (ones (mask (reaches e) 9)) 1 ≡ b
          → cond a 0 (cond b (bit_and (mask (is_flagged m cws) 9) (mask (reaches e) 9)) 0) ≡ mask (is_blamed e m cws) 9
      by true p b q = nobody (λ k l t. omega (arith, eqb-true e.others 0 p, ((who_is_blamed e m cws k).0 t).another))
      by false p true q =
          and_masks (is_flagged m cws) (reaches e) 9
          ∙ mask_ext _ _ 9 (blamed_by (eqb-false e.others 0 p) (sym (ones_mask (reaches e) 9) ∙ eqb-true _ 1 q))
      by false p false q = nobody (λ k l t. eqb-false _ 1 q (ones_mask (reaches e) 9 ∙ one_reaches k l t))

  -- ---- the blamed chip's word

  -- a mask has no chip where none is counted
  mask_eqb : (p : ℕ → Bool) → eqb (mask p 9) 0 ≡ eqb (count p 9) 0
  mask_eqb p = by (eqb (count p 9) 0) refl
    where
      by : (b : Bool) → eqb (count p 9) 0 ≡ b → eqb (mask p 9) 0 ≡ b
      by true q = eq-eqb (mask p 9) 0 (count_mask p 9 (eqb-true (count p 9) 0 q))
      by false q = ne_eqb (mask p 9) 0 (λ z. eqb-false (count p 9) 0 q (mask_count p 9 z))

  rebuilt_outcome : (x : ℕ) → cond (eqb (mask (is_blamed e m cws) 9) 0) Uncorrectable Answered ≡ outcome_by (Undecided x) e m cws
  unfolding outcome_by blamed_chips
  rebuilt_outcome x = ap (λ (b : Bool). cond b Uncorrectable Answered) (mask_eqb (is_blamed e m cws))

  -- the outcome, the words and the check bytes after the diagnosis
  pub record Rebuilt (x : ℕ) (o : Outcome) (places : Places) : Type 0 where
    pub outcome : o ≡ outcome_by (Undecided x) e m cws
    pub words : AtPlaces (is_flagged m cws) (word_by (Undecided x) e m cws) places.words 9
    pub checks : ChecksIfAnswered o (is_flagged m cws) places.words places.checks

  -- the mask of the blamed chip
  abbrev blamed : ℕ
  blamed = mask (is_blamed e m cws) 9

  taken : {k : ℕ} → 0 < blamed → k ≡ count_trailing_zeros 32 blamed → TakenOff blamed k (blamed - 2 ^ count_trailing_zeros 32 blamed)
  taken some ek =
      subst⁻¹ (λ (i : ℕ). TakenOff blamed i (blamed - 2 ^ count_trailing_zeros 32 blamed)) ek (lowest_chip blamed some (mask_lt (is_blamed e m cws) 9))

  pub blamed_below : (r : Option ℕ) → IsLowest blamed r → IfSome r (λ k. k < 9)
  blamed_below None none = tt
  blamed_below (Some k) one = (taken one.0 one.1).below

  -- the words and check bytes of pass three stand at the flagged chips' places
  module _ (x : ℕ) (before : Places) (ex : x ≡ xor_all (pass_three m cws) 9) (ew : AtPlaces (is_flagged m cws) (pass_three m cws) before.words 9)
      (ec : ChecksAt (is_flagged m cws) before.words before.checks) where
    -- nobody is blamed
    none_rebuilt : blamed ≡ 0 → Rebuilt x Uncorrectable before
    unfolding word_by
    none_rebuilt z =
        record {
          outcome = ap (λ (b : Bool). cond b Uncorrectable Answered) (sym (eq-eqb blamed 0 z)) ∙ rebuilt_outcome x;
          words = record {
            at = λ k l t.
                ew.at k l t
                ∙ sym (ap (λ (b : Bool). cond b (xor_others (pass_three m cws) k) (pass_three m cws k)) (count_none (is_blamed e m cws) 9 (mask_count _ 9 z) k l));
          };
          checks = λ a. absurd (true≢false (sym (ap (λ (o : Outcome). if_answered o true false) a)));
        }

    -- chip k is
    module _ {k : ℕ} (some : 0 < blamed) (ek : k ≡ count_trailing_zeros 32 blamed) where
      below : k < 9
      below = (taken some ek).below

      is_blamed_lem : is_blamed e m cws k ≡ true
      is_blamed_lem = sym (in_mask_lem (is_blamed e m cws) 9 k below) ∙ (taken some ek).member

      -- no other chip is
      not_blamed_lem : (j : ℕ) → j < 9 → j ≢ k → is_blamed e m cws j ≡ false
      not_blamed_lem j l ne = false_from_ne_true (is_blamed e m cws j) (λ t. ne (blamed_one e m cws j k l below t is_blamed_lem))

      is_word : bit_xor x (get_or before.words k 0) ≡ word_by (Undecided x) e m cws k
      unfolding word_by xor_others
      is_word =
          ap₂ bit_xor (ex ∙ xor_all_but (pass_three m cws) 9 k below) (ew.at k below (blamed_flagged e m cws k is_blamed_lem))
          ∙ xor_cancel_r _ (pass_three m cws k)
          ∙ sym (ap (λ (b : Bool). cond b (xor_others (pass_three m cws) k) (pass_three m cws k)) is_blamed_lem)

      one_rebuilt : {after : Places} → IsPut k x before after → Rebuilt x Answered after
      unfolding word_by
      one_rebuilt put =
          record {
            outcome = ap (λ (b : Bool). cond b Uncorrectable Answered) (sym (ne_eqb blamed 0 (λ z. omega (arith, some)))) ∙ rebuilt_outcome x;
            words =
                placed_set (is_flagged m cws) before.words put.words put.there.0 (word_by (Undecided x) e m cws) is_word
                (λ j l t ne.
                ew.at j l t
                ∙ sym (ap (λ (b : Bool). cond b (xor_others (pass_three m cws) j) (pass_three m cws j)) (not_blamed_lem j l ne)));
            checks = λ a.
                checked_set (is_flagged m cws) before.words put.words put.there.0 before.checks put.checks put.there.1 refl (λ j l t ne. ec.at j l t);
          }

    -- what the code leaves, by the chip that it took for the blamed one
    pub rebuilt_as : (r : Option ℕ) {o : Outcome} {after : Places} → IsLowest blamed r → IsRebuilt r x before after o → Rebuilt x o after
    rebuilt_as None {o} {after} none left =
        subst⁻¹ (λ (y : Outcome). Rebuilt x y after) left.0 (subst⁻¹ (Rebuilt x Uncorrectable) left.1 (none_rebuilt none))
    rebuilt_as (Some k) {o} {after} one left = subst⁻¹ (λ (y : Outcome). Rebuilt x y after) left.0 (one_rebuilt one.0 one.1 left.1)

-- ---- the row of line l in a memory m of n lines: it begins at line f and ends before line t

module _ (n l : ℕ) (m cws : List ℕ) (below : l < n) {f t : ℕ} (ef : f ≡ row_first l) (et : t ≡ f + min 128 (n - f)) where
  abbrev evidence : Evidence
  evidence = evidence_of n m l cws

  pub row_size_lem : t - f ≡ row_size n l
  unfolding row_size
  row_size_lem =
      let same : min 128 (n - f) ≡ min 128 (n - row_first l) = ap (λ (i : ℕ). min 128 (n - i)) ef in
      omega (arith, et, same)

  pub others_are : t - f - 1 ≡ evidence.others
  unfolding evidence_of
  others_are = omega (arith, others_size n l below, row_size_lem)

  pub others_most : evidence.others ≤ 127
  unfolding evidence_of
  others_most = others_few n l below

  module _ {counts : List ℕ} (ec : counts ≡ of_chips (λ k. sum_of (λ j. bit (is_flagged (line_at m j) cws k)) (without l (up_from f (t - f)))) 9) where
    counts_are : (k : ℕ) → k < 9 → get_or counts k 0 ≡ evidence.flagged_words k
    unfolding evidence_of other_lines
    counts_are k b =
        ap (λ (s : List ℕ). get_or s k 0) ec
        ∙ get_d_of_chips _ 9 k b
        ∙ ap₂ (λ (i j : ℕ). sum_of (λ o. bit (is_flagged (line_at m o) cws k)) (without l (up_from i j))) ef row_size_lem

    reaching_is : {r : ℕ} → r ≡ mask (λ k. leb (t - f - 1) (10 * get_or counts k 0)) 9 → r ≡ mask (reaches evidence) 9
    unfolding reaches
    reaching_is q = q ∙ mask_ext _ _ 9 (λ k b. ap₂ (λ (i j : ℕ). leb i (10 * j)) others_are (counts_are k b))

    -- the mask that the code makes is that of the blamed chip
    pub blamed_made : {g r : ℕ} → g ≡ mask (is_flagged (line_at m l) cws) 9 → r ≡ mask (λ k. leb (t - f - 1) (10 * get_or counts k 0)) 9
        → cond (eqb (t - f - 1) 0) 0 (cond (eqb (ones r) 1) (bit_and g r) 0) ≡ mask (is_blamed evidence (line_at m l) cws) 9
    blamed_made {g} {r} eg er =
        (λ i. cond (eqb (others_are i) 0) 0 (cond (eqb (ones (reaching_is er i)) 1) (bit_and (eg i) (reaching_is er i)) 0))
        ∙ blamed_mask evidence (line_at m l) cws
