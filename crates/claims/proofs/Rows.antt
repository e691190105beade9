-- The row of the device and that of the plain memory: what is counted over the other lines is the same, and so is the chip that is blamed.
-- Assumes nothing.
use mathlib.Core.Path.{◌≡◌, refl, sym, ap, ap₂, ◌∙◌}
use mathlib.Core.Logic.{◌≢◌}
use mathlib.Core.Bool.{Bool, true, false, not, ◌&&◌, and-true, cond}
use mathlib.Core.List.{List}
use Prim.Native.Nat.{ℕ, zero, suc, ◌+◌, ◌-◌, ◌*◌, ◌/◌, ◌≤◌, ◌<◌}
use native.Mathlib.Nat.{add-zero, zero-add}
use native.Mathlib.Omega.{arith}
use lib.Dec.{eqb, ltb, leb}
use borrow.Author.Tests.{eq-eqb, ne_eqb, lt-ltb}
use Rattle.code.specs.Code.{is_codeword}
use Rattle.code.specs.Lists.{up_from, without, sum_of}
use Rattle.code.specs.ListLaws.{sum_without, sum_ones, sum_range, sum_none, sum_parts}
use Rattle.cells.specs.Chips.{bit, count}
use Rattle.cells.specs.ChipLaws.{count_ext}
use Rattle.cells.specs.Cells.{line_word}
use Rattle.passes.specs.Passes.{is_flagged}
use Rattle.line.specs.Blame.{Evidence, reaches, other_reaches, is_blamed}
use Rattle.line.specs.DamageLaws.{line_parity}
use Rattle.line.proofs.ToleratedLaws.{damaged_flagged}
use Rattle.memory.specs.Lines.{line_at}
use Rattle.rows.specs.Rows.{row_first, row_size, other_lines, evidence_of}
use Rattle.rows.proofs.RowLaws.{first_le}
use Rattle.claims.specs.Plain.{Line, Plain, damage, is_other, other_count, unsound_lines, reaches_tenth, blames}
use Rattle.claims.specs.Claim.{laid}
use Rattle.claims.proofs.Related.{Formed, Holds}

-- a count is a sum over the numbers from 0 on
count_sum : (p : ℕ → Bool) (n : ℕ) → count p n ≡ sum_of (λ j. bit (p j)) (up_from 0 n)
unfolding count
count_sum p zero = refl
count_sum p (suc n) =
    let size : suc n ≡ n + 1 = omega arith in
    ap₂ (λ (a b : ℕ). a + b) (count_sum p n) (sym (add-zero (bit (p n))) ∙ ap (λ (j : ℕ). bit (p j) + 0) (sym (zero-add n)))
    ∙ sym (sum_parts (λ j. bit (p j)) 0 n 1)
    ∙ ap (λ (k : ℕ). sum_of (λ j. bit (p j)) (up_from 0 k)) (sym size)

module _ (n l : ℕ) (in_n : l < n) where
  -- the lines of the row have its number
  same_row : (j : ℕ) → row_first l ≤ j → j < row_first l + row_size n l → j / 128 ≡ l / 128
  unfolding row_first row_size
  same_row j low high = omega (arith, low, high)

  before_row : (j : ℕ) → j < row_first l → j / 128 ≢ l / 128
  unfolding row_first
  before_row j high e = omega (arith, high, e)

  after_row : (j : ℕ) → row_first l + row_size n l ≤ j → j < n → j / 128 ≢ l / 128
  unfolding row_first row_size
  after_row j low high e = omega (arith, low, high, e)

  within : row_first l + row_size n l ≤ n
  unfolding row_size
  within = omega (arith, first_le l, in_n)

  module _ (f : ℕ → Bool) where
    -- what line j adds
    abbrev part : ℕ → ℕ
    part j = bit (is_other l j && f j)

    outside : (j : ℕ) → j / 128 ≢ l / 128 → part j ≡ 0
    unfolding is_other
    outside j ne = ap (λ (b : Bool). bit ((b && not (eqb j l)) && f j)) (ne_eqb (j / 128) (l / 128) ne)

    inside : (j : ℕ) → j / 128 ≡ l / 128 → cond (eqb j l) 0 (bit (f j)) ≡ part j
    unfolding is_other
    inside j e = by (eqb j l) ∙ sym (ap (λ (b : Bool). bit ((b && not (eqb j l)) && f j)) (eq-eqb (j / 128) (l / 128) e))
      where
        by : (b : Bool) → cond b 0 (bit (f j)) ≡ bit (not b && f j)
        by true = refl
        by false = refl

    -- the sum over the other lines is the count of those among all
    pub row_count : sum_of (λ j. bit (f j)) (other_lines n l) ≡ count (λ j. is_other l j && f j) n
    unfolding other_lines
    row_count =
        let first : ℕ = row_first l in
        let size : ℕ = row_size n l in
        let rest : ℕ = n - (first + size) in
        let whole : first + (size + rest) ≡ n = omega (arith, within) in
        let low : sum_of part (up_from 0 first) ≡ 0 = sum_none part 0 first (λ j a b. outside j (before_row j (omega (arith, b)))) in
        let high : sum_of part (up_from (first + size) rest) ≡ 0 =
        sum_none part (first + size) rest (λ j a b. outside j (after_row j a (omega (arith, b, within)))) in
        let middle : sum_of (λ j. bit (f j)) (without l (up_from first size)) ≡ sum_of part (up_from first size) =
        sum_without (λ j. bit (f j)) l (up_from first size) ∙ sum_range _ part first size (λ j a b. inside j (same_row j a b)) in
        let parts : sum_of part (up_from 0 (first + (size + rest))) ≡ sum_of part (up_from first size) =
        sum_parts part 0 first (size + rest)
        ∙ ap₂ (λ (a b : ℕ). a + b) low (ap (λ (i : ℕ). sum_of part (up_from i (size + rest))) (zero-add first) ∙ sum_parts part first size rest)
        ∙ zero-add _
        ∙ ap (λ (i : ℕ). sum_of part (up_from first size) + i) high
        ∙ add-zero _ in
        middle ∙ sym parts ∙ ap (λ (i : ℕ). sum_of part (up_from 0 i)) whole ∙ sym (count_sum (λ j. is_other l j && f j) n)

-- ---- a memory and the plain memory that it holds

module _ (n : ℕ) (m : List ℕ) (p : Plain) (h : Holds n m p) (cws : List ℕ) where
  -- on every line the flagged chips are those whose pattern is no codeword
  flagged_no_codeword : (j k : ℕ) → j < n → k < 9 → is_flagged (line_at m j) cws k ≡ not (is_codeword (damage (p.plain_line j) k))
  unfolding laid damage
  flagged_no_codeword j k in_n chip =
      let x : Line = p.plain_line j in
      let f : Formed x = h.formed j in_n in
      ap (λ (y : List ℕ). is_flagged y cws k) (h.each j in_n)
      ∙ damaged_flagged (line_word x.bytes) x.pattern (line_parity x.bytes f.size f.bytes) f.nine f.fits cws k chip

  module _ (l : ℕ) (in_n : l < n) where
    abbrev evidence : Evidence
    evidence = evidence_of n m l cws

    -- as many other lines
    pub others_same : evidence.others ≡ other_count p l
    unfolding evidence_of other_count
    others_same =
        sym (sum_ones (other_lines n l))
        ∙ row_count n l in_n (λ j. true)
        ∙ count_ext _ _ n (λ j b. and-true (is_other l j))
        ∙ ap (count (is_other l)) (sym h.lines)

    -- as many flagged words of chip k as patterns that are no codewords
    pub counts_same : (k : ℕ) → k < 9 → evidence.flagged_words k ≡ unsound_lines p l k
    unfolding evidence_of unsound_lines
    counts_same k chip =
        row_count n l in_n (λ j. is_flagged (line_at m j) cws k)
        ∙ count_ext _ _ n (λ j b. ap (λ (t : Bool). is_other l j && t) (flagged_no_codeword j k b chip))
        ∙ ap (count (λ j. is_other l j && not (is_codeword (damage (p.plain_line j) k)))) (sym h.lines)

    reaches_same : (k : ℕ) → k < 9 → reaches evidence k ≡ reaches_tenth p l k
    unfolding reaches reaches_tenth
    reaches_same k chip = ap₂ (λ (a b : ℕ). leb a (10 * b)) others_same (counts_same k chip)

    -- chip k is blamed in both or in neither, where its damage is seen as it is
    pub blamed_same : (k : ℕ) → k < 9 → is_flagged (line_at m l) cws k ≡ not (eqb (damage (p.plain_line l) k) 0)
        → is_blamed evidence (line_at m l) cws k ≡ blames p l k
    unfolding is_blamed other_reaches blames
    blamed_same k chip flagged =
        (λ i. flagged i && (reaches_same k chip i && (ltb 0 (others_same i) && not (ltb 0 (counted i)))))
        ∙ ap (λ (b : Bool). not (eqb (damage (p.plain_line l) k) 0) && (reaches_tenth p l k && (ltb 0 (other_count p l) && b))) (none (count other 9))
      where
        other : ℕ → Bool
        other j = not (eqb j k) && reaches_tenth p l j

        counted : count (λ j. not (eqb j k) && reaches evidence j) 9 ≡ count other 9
        counted = count_ext _ _ 9 (λ j b. ap (λ (t : Bool). not (eqb j k) && t) (reaches_same j b))

        none : (c : ℕ) → not (ltb 0 c) ≡ eqb c 0
        none zero = refl
        none (suc c) = ap not (lt-ltb 0 (suc c) (omega arith)) ∙ sym (ne_eqb (suc c) 0 (λ e. omega (arith, e)))
