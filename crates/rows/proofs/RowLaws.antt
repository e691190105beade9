-- Laws of a row: how many other lines it has; that the counts over them, and so the outcome, flagged mask, words and bytes of a visit, are
-- the same for any catch-words; the passes that a visit reports where its row is diagnosed; and that it is not diagnosed for two chips
-- beyond mending.
-- Assumes nothing.
use Rattle.std.specs.Prelude.{◌≡◌, ◌≢◌, Bool, List, ltb}
use Rattle.std.proofs.Common.{sym, ◌∙◌}
use Rattle.std.proofs.Math.Path.{ap, ap₂}
use Prim.Native.Nat.{ℕ, ◌+◌, ◌-◌, ◌*◌, ◌≤◌, ◌<◌, zero-le}
use native.Mathlib.Omega.{arith}
use Rattle.std.proofs.Math.ListN.{length}
use Rattle.code.specs.Lists.{up_from, sum_of}
use Rattle.code.specs.ListLaws.{length_up_from, length_without, without_most}
use Rattle.cells.specs.Chips.{xor_all, bit, count}
use Rattle.cells.specs.ChipLaws.{bit_lt}
use Rattle.passes.specs.Passes.{is_candidate, is_flagged, flagged_chips, pass_three, beyond_chips}
use Rattle.passes.proofs.PassLaws.{flagged_is}
use Rattle.line.specs.Blame.{Evidence}
use Rattle.line.specs.Visit.{finding_of, own_passes, outcome_by, outcome_of, word_of, bytes_after, row_passes, report_of}
use Rattle.line.proofs.CatchWordLaws.{outcome_free, word_free, bytes_free, flagged_free}
use Rattle.line.specs.FindingLaws.{undecided_made, three_passes, two_beyond_lem}
use Rattle.line.specs.declared.Outcome.TheVariants.{Uncorrectable}
use Rattle.line.specs.declared.Finding.{Finding}
use Rattle.line.specs.declared.Finding.TheVariants.{Decided, Undecided}
use Rattle.memory.specs.Lines.{line_at}
use Rattle.rows.specs.Rows.{row_first, row_size, other_lines, evidence_of, report_in, word_in, bytes_in}

-- a line is in its row
pub first_le : (l : ℕ) → row_first l ≤ l
unfolding row_first
first_le l = omega arith

pub first_near : (l : ℕ) → l < row_first l + 128
unfolding row_first
first_near l = omega arith

module _ (n l : ℕ) (below : l < n) where
  inside : l < row_first l + row_size n l
  unfolding row_size
  inside = omega (arith, first_le l, first_near l, below)

  -- the other lines are all of the row but one, and so at most 127
  pub others_size : length (other_lines n l) + 1 ≡ row_size n l
  unfolding other_lines
  others_size = length_without l (row_first l) (row_size n l) (first_le l) inside

  pub others_few : length (other_lines n l) ≤ 127
  unfolding row_size
  others_few = omega (arith, others_size)

-- wherever l lies, a row has no more than 128 lines
pub others_most : (n l : ℕ) → length (other_lines n l) ≤ 128
unfolding other_lines row_size
others_most n l =
    omega (arith, without_most l (up_from (row_first l) (row_size n l)), length_up_from (row_first l) (row_size n l))

-- ---- the catch-words

-- the sum over some lines
flagged_sum : (m c d : List ℕ) (k : ℕ) (ls : List ℕ) → sum_of (λ j. bit (is_flagged (line_at m j) c k)) ls ≡ sum_of (λ j. bit (is_flagged (line_at m j) d k)) ls
flagged_sum m c d k ls =
    ap (λ (p : ℕ → Bool). sum_of (λ j. bit (p j)) ls)
    (λ i j. (flagged_is (line_at m j) c k ∙ sym (flagged_is (line_at m j) d k)) i)

-- what is counted over the other lines is the same for any catch-words
pub evidence_free : (n : ℕ) (m : List ℕ) (l : ℕ) (c d : List ℕ) → evidence_of n m l c ≡ evidence_of n m l d
unfolding evidence_of
evidence_free n m l c d = λ i. record { others = length (other_lines n l); flagged_words = λ k. flagged_sum m c d k (other_lines n l) i }

-- so are the outcome, the flagged mask, each chip's word and the line's bytes after it, of a visit to line l of a memory m of n lines,
-- whether its row is diagnosed or not
module _ (n : ℕ) (m : List ℕ) (l : ℕ) (c d : List ℕ) where
  pub outcome_in_free : (report_in n m l c).outcome ≡ (report_in n m l d).outcome
  unfolding report_in report_of
  outcome_in_free =
      ap (λ (e : Evidence). outcome_of e (line_at m l) c) (evidence_free n m l c d) ∙ outcome_free (evidence_of n m l d) (line_at m l) c d

  pub flagged_in_free : (report_in n m l c).flagged ≡ (report_in n m l d).flagged
  unfolding report_in report_of
  flagged_in_free = flagged_free (evidence_of n m l d) (line_at m l) c d

  pub word_in_free : (k : ℕ) → k < 9 → word_in n m l c k ≡ word_in n m l d k
  unfolding word_in
  word_in_free k h =
      ap (λ (e : Evidence). word_of e (line_at m l) c k) (evidence_free n m l c d) ∙ word_free (evidence_of n m l d) (line_at m l) c d k h

  pub bytes_in_free : bytes_in n m l c ≡ bytes_in n m l d
  unfolding bytes_in
  bytes_in_free =
      ap (λ (e : Evidence). bytes_after e (line_at m l) c) (evidence_free n m l c d) ∙ bytes_free (evidence_of n m l d) (line_at m l) c d

-- ---- what a visit to line l of a memory m of n lines reports

module _ (n : ℕ) (m : List ℕ) (l : ℕ) (cws : List ℕ) where
  -- where two or more are flagged, none of them is beyond mending and the words of pass three don't xor to zero: three passes over the line, and
  -- two for each other line of the row, whether the visit is answered or refused
  pub diagnosed_passes : l < n → 1 < flagged_chips (line_at m l) cws → beyond_chips (line_at m l) cws ≡ 0 → xor_all (pass_three (line_at m l) cws) 9 ≢ 0
      → (report_in n m l cws).passes ≡ 3 + 2 * (row_size n l - 1)
  unfolding report_in report_of row_passes evidence_of
  diagnosed_passes below several none remains =
      let two : length (other_lines n l) ≡ row_size n l - 1 = omega (arith, others_size n l below) in
      ap₂ (λ (a b : ℕ). a + b) (three_passes (line_at m l) cws several)
      (ap (λ (f : Finding). row_passes f (evidence_of n m l cws)) (undecided_made (line_at m l) cws several none remains)
      ∙ ap (λ (i : ℕ). 2 * i) two)

  -- for any l, below n or not, they have at most three digits; below n they are at most 257
  pub passes_most : (report_in n m l cws).passes ≤ 259
  unfolding report_in report_of own_passes row_passes evidence_of
  passes_most =
      omega (
        arith,
        bit_lt (ltb 0 (count (is_candidate (line_at m l) cws) 9)),
        bit_lt (ltb 1 (flagged_chips (line_at m l) cws)),
        by (finding_of (line_at m l) cws),
      )
    where
      by : (f : Finding) → row_passes f (evidence_of n m l cws) ≤ 256
      by (Decided o) = zero-le
      by (Undecided x) = omega (arith, others_most n l)

  -- two or more beyond mending are refused with 21 after three passes
  pub two_beyond_refused : 1 < beyond_chips (line_at m l) cws → ((report_in n m l cws).outcome ≡ Uncorrectable) × ((report_in n m l cws).passes ≡ 3)
  unfolding report_in report_of row_passes outcome_of outcome_by
  two_beyond_refused two =
      let told = two_beyond_lem (line_at m l) cws two in
      let e : Evidence = evidence_of n m l cws in (
        ap (λ (f : Finding). outcome_by f e (line_at m l) cws) told.0,
        ap₂ (λ (a b : ℕ). a + b) told.1 (ap (λ (f : Finding). row_passes f e) told.0),
      )
