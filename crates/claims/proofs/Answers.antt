-- The plain memory's rule for a line: where it answers and where it refuses, by what the patterns are and by who is blamed. Whoever needs the
-- rule uses these laws, so that another wording of it is to be proved here alone.
-- Assumes nothing.
use mathlib.Core.Path.{◌≡◌, refl, ap, ap₂, ◌∙◌}
use mathlib.Core.Logic.{◌⊎◌, inl, inr}
use mathlib.Core.Bool.{Bool, true, false, not, ◌&&◌, ◌||◌, and-false, or-true}
use Prim.Native.Nat.{ℕ, zero, suc, ◌^◌, ◌≤◌, ◌<◌}
use native.Mathlib.Nat.{le_antisymm, le_trans}
use native.Mathlib.Omega.{arith}
use lib.Count.{ones}
use lib.Dec.{eqb, ltb}
use borrow.Author.Tests.{eq-eqb, ne_eqb, le-leb, lt-leb, lt-ltb, le-ltb, ltb-false}
use Rattle.code.specs.Code.{mended_word, status_of, is_beyond}
use Rattle.code.proofs.MendLaws.{mended_word_narrow}
use Rattle.code.proofs.StatusLaws.{beyond_wide}
use Rattle.code.specs.TestLaws.{and_first}
use Rattle.words.specs.ByteLaws.{number_lt}
use Rattle.cells.specs.Chips.{count}
use Rattle.cells.specs.ChipLaws.{count_zero, count_some, count_one, count_le, count_none, count_found}
use Rattle.line.specs.Damage.{Tolerated, damaged_patterns, Answerable, few_damaged, all_undone, some_beyond, LeftUndecided}
use Rattle.line.proofs.ToleratedLaws.{tolerated_ends}
use Rattle.claims.specs.Plain.{Line, Plain, damage, damaged_chips, wide, wide_beyond, undone, blames, wide_blamed, answers}
use Rattle.claims.specs.Premises.{LinePremise, is_diagnosed, Premise}
use Rattle.claims.specs.Damages.{Refused}
use Rattle.claims.proofs.Related.{Formed}

-- a pattern of nine bytes fits in 72 bits
pub damage_fits : (x : Line) → Formed x → (k : ℕ) → k < 9 → damage x k < 2 ^ 72
unfolding damage
damage_fits x f k l = number_lt (x.pattern k) 9 (f.fits k l) (f.nine k l)

-- one of two tests holds, or neither does
or_left : (a b : Bool) → a ≡ true → (a || b) ≡ true
or_left a b e = ap (λ (t : Bool). t || b) e

or_right : (a b : Bool) → b ≡ true → (a || b) ≡ true
or_right a b e = ap (λ (t : Bool). a || t) e ∙ or-true a

or_none : (a b : Bool) → a ≡ false → b ≡ false → (a || b) ≡ false
or_none a b e f = ap₂ ◌||◌ e f

-- ---- the rule

module _ (p : Plain) (l : ℕ) where
  abbrev x : Line
  x = p.plain_line l

  -- it refuses where none of the four tests holds, in whatever order the rule has them
  by_none : 1 < damaged_chips (p.plain_line l) → undone (p.plain_line l) ≡ false → wide_beyond (p.plain_line l) ≡ false → wide_blamed p l ≡ false
      → answers p l ≡ false
  unfolding answers
  by_none several b c d = search (or_none, lt-leb, several, b, c, d)

  -- and answers where one does
  by_few : damaged_chips (p.plain_line l) ≤ 1 → answers p l ≡ true
  unfolding answers
  by_few few = search (or_left, or_right, le-leb, few)

  by_undone : undone (p.plain_line l) ≡ true → answers p l ≡ true
  unfolding answers
  by_undone e = search (or_left, or_right, e)

  by_beyond : wide_beyond (p.plain_line l) ≡ true → answers p l ≡ true
  unfolding answers
  by_beyond e = search (or_left, or_right, e)

  by_blamed : wide_blamed p l ≡ true → answers p l ≡ true
  unfolding answers
  by_blamed e = search (or_left, or_right, e)

-- ---- by the patterns alone

module _ (x : Line) (f : Formed x) (h : LinePremise x) where
  -- what the laws of a visit ask of the patterns
  pub tolerated : Tolerated (damage x)
  tolerated =
      record {
        fit = damage_fits x f;
        detected = h.detected;
        one_wide = λ j k hj hk wj wk. count_one (wide x) 9 h.one_wide j k hj hk (lt-ltb 1 (ones (damage x j)) wj) (lt-ltb 1 (ones (damage x k)) wk);
      }

  -- one wide pattern that passes a test
  wide_test : (t : ℕ → Bool) (k : ℕ) → k < 9 → wide x k ≡ true → t k ≡ true
      → (eqb (count (wide x) 9) 1 && eqb (count (λ j. wide x j && t j) 9) 1) ≡ true
  wide_test t k l w e =
      let both : ℕ → Bool = λ j. wide x j && t j in
      let one : count (wide x) 9 ≡ 1 = le_antisymm h.one_wide (count_some (wide x) 9 k l w) in
      let most : count both 9 ≤ 1 = le_trans (count_le both (wide x) 9 (λ j _. and_first (wide x j) (t j))) h.one_wide in
      let same : count both 9 ≡ 1 = le_antisymm most (count_some both 9 k l (ap₂ ◌&&◌ w e)) in
      ap₂ (λ (a b : ℕ). eqb a 1 && eqb b 1) one same

  -- a pattern beyond mending is the one wide pattern
  pub beyond_test : (k : ℕ) → k < 9 → is_beyond (status_of (damage x k)) ≡ true → wide_beyond x ≡ true
  unfolding wide_beyond
  beyond_test k l e = wide_test (λ j. is_beyond (status_of (damage x j))) k l (beyond_wide (damage x k) (damage_fits x f k l) e) e

  pub undone_test : ((k : ℕ) → k < 9 → mended_word (damage x k) ≡ 0) → undone x ≡ true
  unfolding undone
  undone_test u = eq-eqb _ 0 (count_zero _ 9 (λ k l. ap not (eq-eqb (mended_word (damage x k)) 0 (u k l))))

  -- what its own bytes leave undecided is neither undone nor beyond mending
  module _ (r : LeftUndecided (damage x)) where
    several : 1 < damaged_chips x
    unfolding damaged_patterns damaged_chips
    several = r.several

    not_undone : undone x ≡ false
    unfolding undone
    not_undone =
        let remains : ℕ → Bool = λ k. not (eqb (mended_word (damage x k)) 0) in
        let some : 1 ≤ count remains 9 =
        count_some remains 9 r.chip r.below (ap not (ne_eqb (mended_word (damage x r.chip)) 0 r.remains)) in
        ne_eqb (count remains 9) 0 (λ e. omega (arith, some, e))

    not_beyond : wide_beyond x ≡ false
    unfolding wide_beyond
    not_beyond =
        let both : ℕ → Bool = λ k. wide x k && is_beyond (status_of (damage x k)) in
        let none : count both 9 ≡ 0 =
        count_zero both 9 (λ k l. ap (λ (b : Bool). wide x k && b) (r.none_beyond k l) ∙ and-false (wide x k)) in
        ap (λ (n : ℕ). eqb (count (wide x) 9) 1 && eqb n 1) none ∙ and-false (eqb (count (wide x) 9) 1)

    -- so the visit comes to a diagnosis
    pub diagnosed : is_diagnosed x ≡ true
    unfolding is_diagnosed
    diagnosed = rw (lt-ltb 1 (damaged_chips x) several, not_undone, not_beyond)

  -- what its own bytes answer does not come to one
  pub not_diagnosed : Answerable (damage x) → is_diagnosed x ≡ false
  unfolding is_diagnosed damaged_patterns damaged_chips
  not_diagnosed (few_damaged few) = ap (λ (b : Bool). b && not (undone x || wide_beyond x)) (le-ltb 1 (damaged_chips x) few)
  not_diagnosed (all_undone u) = ap (λ (b : Bool). ltb 1 (damaged_chips x) && not (b || wide_beyond x)) (undone_test u) ∙ and-false (ltb 1 (damaged_chips x))
  not_diagnosed (some_beyond k l e) =
      ap (λ (b : Bool). ltb 1 (damaged_chips x) && not (undone x || b)) (beyond_test k l e)
      ∙ ap (λ (b : Bool). ltb 1 (damaged_chips x) && not b) (or-true (undone x))
      ∙ and-false (ltb 1 (damaged_chips x))

-- ---- by who is blamed

-- how a visit to line l ends: by the line's own bytes; with the chip of the wide pattern blamed; or with nobody blamed
pub data Ends (p : Plain) (l : ℕ) : Type 0 where
  decided : Answerable (damage (p.plain_line l)) → Ends p l
  rightly : LeftUndecided (damage (p.plain_line l)) → (k : ℕ) → k < 9 → wide (p.plain_line l) k ≡ true → blames p l k ≡ true → Ends p l
  nobody : LeftUndecided (damage (p.plain_line l)) → ((k : ℕ) → k < 9 → blames p l k ≡ false) → Ends p l

module _ (p : Plain) (l : ℕ) (f : Formed (p.plain_line l)) where
  -- under the premise there is no other way
  pub ends : Premise p l → Ends p l
  ends h = by (tolerated_ends (damage (p.plain_line l)) (tolerated (p.plain_line l) f h.line))
    where
      by_count : LeftUndecided (damage (p.plain_line l)) → (n : ℕ) → count (blames p l) 9 ≡ n → Ends p l
      by_count r zero e = nobody r (count_none (blames p l) 9 e)
      by_count r (suc n) e =
          let b = count_found (blames p l) 9 (omega (arith, e)) in
          rightly r b.0 b.1.0 (h.only_wide (diagnosed (p.plain_line l) f h.line r) b.0 b.1.0 b.1.1) b.1.1

      by : Answerable (damage (p.plain_line l)) ⊎ LeftUndecided (damage (p.plain_line l)) → Ends p l
      by (inl a) = decided a
      by (inr r) = by_count r (count (blames p l) 9) refl

  module _ (h : LinePremise (p.plain_line l)) where
    -- it answers an answerable line
    pub answers_true : Answerable (damage (p.plain_line l)) → answers p l ≡ true
    unfolding damaged_patterns damaged_chips
    answers_true (few_damaged few) = by_few p l few
    answers_true (all_undone u) = by_undone p l (undone_test (p.plain_line l) f h u)
    answers_true (some_beyond k b e) = by_beyond p l (beyond_test (p.plain_line l) f h k b e)

    -- one that is left undecided if the chip with the wide pattern is blamed
    pub answers_blamed : (k : ℕ) → k < 9 → wide (p.plain_line l) k ≡ true → blames p l k ≡ true → answers p l ≡ true
    unfolding wide_blamed
    answers_blamed k b w e = by_blamed p l (wide_test (p.plain_line l) f h (blames p l) k b w e)

    -- what nobody blamed shows
    pub refused_shows : LeftUndecided (damage (p.plain_line l)) → ((k : ℕ) → k < 9 → blames p l k ≡ false) → Refused p l
    refused_shows r none =
        record {
          several = several (p.plain_line l) f h r;
          chip = r.chip;
          below = r.below;
          is_wide = by (wide (p.plain_line l) r.chip) refl;
          not_beyond_lem = r.none_beyond r.chip r.below;
          remains = r.remains;
          not_blamed = none r.chip r.below;
        }
      where
        e : ℕ
        e = damage (p.plain_line l) r.chip

        by : (b : Bool) → wide (p.plain_line l) r.chip ≡ b → wide (p.plain_line l) r.chip ≡ true
        by true q = q
        by false q = absurd (r.remains (mended_word_narrow e (damage_fits (p.plain_line l) f r.chip r.below) (ltb-false 1 (ones e) q)))

    -- and refuses it if nobody is
    pub answers_false : LeftUndecided (damage (p.plain_line l)) → ((k : ℕ) → k < 9 → blames p l k ≡ false) → answers p l ≡ false
    unfolding wide_blamed
    answers_false r none =
        let x : Line = p.plain_line l in
        let zero_both : count (λ k. wide x k && blames p l k) 9 ≡ 0 =
        count_zero _ 9 (λ k b. ap (λ (t : Bool). wide x k && t) (none k b) ∙ and-false (wide x k)) in
        by_none p l (several x f h r) (not_undone x f h r) (not_beyond x f h r)
        (ap (λ (n : ℕ). eqb (count (wide x) 9) 1 && eqb n 1) zero_both ∙ and-false (eqb (count (wide x) 9) 1))
