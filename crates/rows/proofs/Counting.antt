-- What the loop over the lines of a row keeps. Assumes nothing.
use mathlib.Core.Path.{◌≡◌, sym, ap, ◌∙◌, subst⁻¹}
use mathlib.Core.Logic.{◌≢◌}
use mathlib.Core.Bool.{Bool, cond}
use mathlib.Core.List.{List, [], ◌∷◌}
use Prim.Native.Nat.{ℕ, suc, ◌+◌, ◌-◌, ◌≤◌, ◌<◌}
use native.Mathlib.Nat.{add-zero}
use native.Mathlib.Omega.{arith}
use lib.ListN.{length, get_or}
use borrow.Author.Tests.{eq-eqb, ne_eqb}
use Rattle.code.specs.Lists.{up_from, without, sum_of}
use Rattle.cells.specs.Chips.{of_chips, bit, mask, in_mask}
use Rattle.cells.specs.ChipLaws.{length_of_chips, get_d_of_chips, of_chips_ext, of_chips_list, bit_lt, in_mask_lem}
use Rattle.rows.specs.Counts.{AtMost}

-- ---- the lines of a row

-- the lines from i on, up to before e: the next one, and those after it
next_line : (i e : ℕ) → i < e → up_from i (e - i) ≡ i ∷ up_from (i + 1) (e - (i + 1))
next_line i e h =
    let a : e - i ≡ suc (e - (i + 1)) = omega arith in
    let b : suc i ≡ i + 1 = omega arith in
    ap (up_from i) a ∙ ap (λ (k : ℕ). i ∷ up_from k (e - (i + 1))) b

no_lines : (i e : ℕ) → e ≤ i → up_from i (e - i) ≡ []
no_lines i e h =
    let a : e - i ≡ 0 = omega arith in
    ap (up_from i) a

-- p says which chips are flagged on a line. The lines from f up to before i are counted, but for line l; with those that are left they make
-- all up to before e
module _ (p : ℕ → ℕ → Bool) (l f e : ℕ) where
  -- chip k's flagged words on some lines
  abbrev words : ℕ → List ℕ → ℕ
  words k ls = sum_of (λ j. bit (p j k)) (without l ls)

  pub record Counted (counts : List ℕ) (i : ℕ) : Type 0 where
    pub from : f ≤ i
    pub upto : i ≤ e
    pub size : length counts ≡ 9
    pub few : AtMost (i - f) counts
    pub left : (k : ℕ) → k < 9 → get_or counts k 0 + words k (up_from i (e - i)) ≡ words k (up_from f (e - f))

  module _ {counts : List ℕ} {i : ℕ} (h : Counted counts i) (below : i < e) where
    abbrev rest : List ℕ
    rest = up_from (i + 1) (e - (i + 1))

    -- the wanted line is left out
    pub counted_skip : {after : List ℕ} → i ≡ l → after ≡ counts → Counted after (i + 1)
    counted_skip {after} same kept = subst⁻¹ (λ (s : List ℕ). Counted s (i + 1)) kept (record {
      from = omega (arith, h.from);
      upto = omega arith;
      size = h.size;
      few = λ k b. omega (arith, h.few k b, h.from);
      left = λ k b.
          ap (λ (n : ℕ). get_or counts k 0 + n)
          (sym (ap (words k) (next_line i e below) ∙ ap (λ (t : Bool). sum_of (λ j. bit (p j k)) (cond t (without l rest) (i ∷ without l rest))) (eq-eqb i l same)))
          ∙ h.left k b;
    })

    -- another one is counted
    pub counted_more : {flagged : ℕ} {after : List ℕ} → i ≢ l → flagged ≡ mask (p i) 9
        → after ≡ of_chips (λ k. get_or counts k 0 + bit (in_mask flagged k)) 9 → Counted after (i + 1)
    counted_more {flagged} {after} other masked e₁ =
        record {
          from = omega (arith, h.from);
          upto = omega arith;
          size = ap length e₁ ∙ length_of_chips _ 9;
          few = λ k b. omega (arith, h.few k b, h.from, bit_lt (p i k), each k b);
          left = λ k b. omega (arith, h.left k b, each k b, next k);
        }
      where
        each : (k : ℕ) → k < 9 → get_or after k 0 ≡ get_or counts k 0 + bit (p i k)
        each k b =
            ap (λ (s : List ℕ). get_or s k 0) e₁
            ∙ get_d_of_chips (λ j. get_or counts j 0 + bit (in_mask flagged j)) 9 k b
            ∙ ap (λ (t : Bool). get_or counts k 0 + bit t) (ap (λ (n : ℕ). in_mask n k) masked ∙ in_mask_lem (p i) 9 k b)

        next : (k : ℕ) → words k (up_from i (e - i)) ≡ bit (p i k) + words k rest
        next k =
            ap (words k) (next_line i e below)
            ∙ ap (λ (t : Bool). sum_of (λ j. bit (p j k)) (cond t (without l rest) (i ∷ without l rest))) (ne_eqb i l other)

  module _ {counts : List ℕ} {i : ℕ} (h : Counted counts i) (over : e ≤ i) where
    pub all_counted : counts ≡ of_chips (λ k. words k (up_from f (e - f))) 9
    all_counted =
        sym (of_chips_list counts 9 h.size)
        ∙ of_chips_ext _ _ 9 (λ k b. sym (add-zero (get_or counts k 0)) ∙ ap (λ (ls : List ℕ). get_or counts k 0 + words k ls) (sym (no_lines i e over)) ∙ h.left k b)
