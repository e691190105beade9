-- Laws of row diagnosis: who is blamed, by the four conditions; no more than one chip is; and of the wanted line it looks at which chips hold
-- no codeword, whatever the catch-words.
-- Assumes nothing.
use Rattle.std.specs.Prelude.{◌≡◌, ◌↔◌, ◌≢◌, ◌&&◌, List, eqb, ltb}
use Rattle.std.proofs.Math.Path.{refl, ap}
use Rattle.std.proofs.Common.{ap₂, ◌∙◌, arith}
use Rattle.std.proofs.Math.Bool.{Bool, true, false, not, and-false}
use Prim.Native.Nat.{ℕ, ◌*◌, ◌≤◌, ◌<◌}
use Rattle.std.proofs.Math.Decide.{ℕ_discrete}
use borrow.Author.Tests.{eq-eqb, ne_eqb, le-leb, lt-leb, leb-true, leb-false, lt-ltb, ltb-true, ltb-false, not-true}
use Rattle.code.specs.TestLaws.{and_first, and_second}
use Rattle.cells.specs.Chips.{count}
use Rattle.cells.specs.ChipLaws.{count_some, count_zero, count_few}
use Rattle.passes.specs.Passes.{is_flagged}
use Rattle.line.specs.Blame.{Evidence, reaches, other_reaches, is_blamed, blamed_chips, Blamed}

module _ (e : Evidence) where
  -- a chip reaches or doesn't, in numbers
  pub reaches_true : (k : ℕ) → reaches e k ≡ true → e.others ≤ 10 * e.flagged_words k
  unfolding reaches
  reaches_true k r = leb-true e.others (10 * e.flagged_words k) r

  pub reaches_false : (k : ℕ) → reaches e k ≡ false → 10 * e.flagged_words k < e.others
  unfolding reaches
  reaches_false k r = leb-false e.others (10 * e.flagged_words k) r

  pub le_reaches : (k : ℕ) → e.others ≤ 10 * e.flagged_words k → reaches e k ≡ true
  unfolding reaches
  le_reaches k l = le-leb e.others (10 * e.flagged_words k) l

  lt_reaches : (k : ℕ) → 10 * e.flagged_words k < e.others → reaches e k ≡ false
  unfolding reaches
  lt_reaches k l = lt-leb e.others (10 * e.flagged_words k) l

  -- where no other chip reaches, ten times the count of each is less than the number of other lines
  below : (k : ℕ) → other_reaches e k ≡ false → (j : ℕ) → j < 9 → j ≢ k → 10 * e.flagged_words j < e.others
  unfolding other_reaches
  below k none j l ne = by (reaches e j) refl
    where
      other : ℕ → Bool
      other i = not (eqb i k) && reaches e i

      by : (b : Bool) → reaches e j ≡ b → 10 * e.flagged_words j < e.others
      by true r =
          let some : 1 ≤ count other 9 = count_some other 9 j l (ap₂ (λ (a b : Bool). not a && b) (ne_eqb j k ne) r) in
          absurd (omega (arith, some, ltb-false 0 (count other 9) none))
      by false r = reaches_false j r

  none_other : (k : ℕ) → ((j : ℕ) → j < 9 → j ≢ k → 10 * e.flagged_words j < e.others) → other_reaches e k ≡ false
  unfolding other_reaches
  none_other k h = ap (ltb 0) (count_zero _ 9 (λ j l. by j l (ℕ_discrete j k)))
    where
      by : (j : ℕ) → j < 9 → Dec (j ≡ k) → (not (eqb j k) && reaches e j) ≡ false
      by j l (yes same) = ap (λ (a : Bool). not a && reaches e j) (eq-eqb j k same)
      by j l (no ne) = ap (λ (b : Bool). not (eqb j k) && b) (lt_reaches j (h j l ne)) ∙ and-false (not (eqb j k))

  module _ (m cws : List ℕ) where
    -- a blamed chip is flagged
    pub blamed_flagged : (k : ℕ) → is_blamed e m cws k ≡ true → is_flagged m cws k ≡ true
    unfolding is_blamed
    blamed_flagged k b = and_first (is_flagged m cws k) (reaches e k && (ltb 0 e.others && not (other_reaches e k))) b

    -- chip k is blamed exactly where the four conditions hold
    pub who_is_blamed : (k : ℕ) → (is_blamed e m cws k ≡ true) ↔ Blamed e m cws k
    unfolding is_blamed
    who_is_blamed k = (told, blames)
      where
        told : is_blamed e m cws k ≡ true → Blamed e m cws k
        told b =
            let three = and_second (is_flagged m cws k) (reaches e k && (ltb 0 e.others && not (other_reaches e k))) b in
            let two = and_second (reaches e k) (ltb 0 e.others && not (other_reaches e k)) three in
            record {
              flagged = blamed_flagged k b;
              reached = reaches_true k (and_first (reaches e k) (ltb 0 e.others && not (other_reaches e k)) three);
              another = ltb-true 0 e.others (and_first (ltb 0 e.others) (not (other_reaches e k)) two);
              alone = below k (not-true (other_reaches e k) (and_second (ltb 0 e.others) (not (other_reaches e k)) two));
            }

        blames : Blamed e m cws k → is_blamed e m cws k ≡ true
        blames h =
            rw (h.flagged, le_reaches k h.reached, lt-ltb 0 e.others h.another, none_other k h.alone)

    -- no two are
    pub blamed_one : (j k : ℕ) → j < 9 → k < 9 → is_blamed e m cws j ≡ true → is_blamed e m cws k ≡ true → j ≡ k
    blamed_one j k hj hk bj bk = by (ℕ_discrete j k)
      where
        by : Dec (j ≡ k) → j ≡ k
        by (yes same) = same
        by (no ne) =
            let reached = ((who_is_blamed j).0 bj).reached in
            let less = ((who_is_blamed k).0 bk).alone j hj ne in
            absurd (omega (arith, reached, less))

    pub blamed_few : blamed_chips e m cws ≤ 1
    unfolding blamed_chips
    blamed_few = count_few (is_blamed e m cws) 9 blamed_one
