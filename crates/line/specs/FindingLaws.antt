-- What the line's own bytes tell: they leave the outcome undecided in one case alone, after three passes, and then the words are those of pass
-- three; two or more flagged chips beyond mending are refused with 21 at once.
-- Assumes nothing.
use Rattle.std.specs.Prelude.{◌≡◌, ◌≢◌, Bool, List}
use Rattle.std.proofs.Math.Path.{refl, ap}
use Rattle.std.proofs.Common.{sym, ◌∙◌, true≢false, arith}
use Rattle.std.proofs.Math.Bool.{true, false, cond}
use Prim.Native.Nat.{ℕ, zero, suc, ◌<◌, ◌≤◌}
use Rattle.std.proofs.Math.Dec.{eqb}
use borrow.Author.Tests.{eqb-false, ne_eqb, lt-ltb}
use Rattle.code.specs.TestLaws.{and_first}
use Rattle.cells.specs.Chips.{xor_all, count}
use Rattle.cells.specs.ChipLaws.{count_le}
use Rattle.passes.specs.Passes.{pass_one, is_candidate, sent_complement, is_flagged, flagged_chips, pass_three, chip_status, is_flagged_beyond, beyond_chips}
use Rattle.code.specs.Code.{is_beyond}
use Rattle.line.specs.Visit.{must_cancel, third_finding, third_word, finding_by, own_word_by, finding_of, own_word, own_passes}
use Rattle.line.specs.declared.Outcome.{Outcome}
use Rattle.line.specs.declared.Outcome.TheVariants.{Answered, Unlocated, Uncorrectable}
use Rattle.line.specs.declared.Finding.{Finding}
use Rattle.line.specs.declared.Finding.TheVariants.{Decided, Undecided}

-- what an undecided finding with the number x tells
pub record UndecidedCase (m cws : List ℕ) (x : ℕ) : Type 0 where
  pub several : 1 < flagged_chips m cws
  pub none_beyond : beyond_chips m cws ≡ 0
  pub xor : x ≡ xor_all (pass_three m cws) 9
  pub remains : xor_all (pass_three m cws) 9 ≢ 0
  pub word : (k : ℕ) → own_word m cws k ≡ pass_three m cws k

-- the number of an undecided finding, else another
abbrev number_or : ℕ → Finding → ℕ
number_or other (Decided o) = other
number_or other (Undecided x) = x

abbrev is_decided : Finding → Bool
is_decided (Decided o) = true
is_decided (Undecided x) = false

-- a decided finding is no undecided one
apart : {A : Type 0} {o : Outcome} {x : ℕ} → Decided o ≡ Undecided x → A
apart e = absurd (true≢false (ap is_decided e))

module _ (m cws : List ℕ) where
  -- pass three is made
  pub three_passes : 1 < flagged_chips m cws → own_passes m cws ≡ 3
  unfolding own_passes flagged_chips is_flagged
  three_passes several =
      let few : count (is_flagged m cws) 9 ≤ count (is_candidate m cws) 9 =
      count_le (is_flagged m cws) (is_candidate m cws) 9 (λ k l. and_first (is_candidate m cws k) (sent_complement m cws k)) in
      rw (lt-ltb 0 (count (is_candidate m cws) 9) (omega (arith, few, several)), lt-ltb 1 (count (is_flagged m cws) 9) several)

  cancelled : (o : Outcome) (f : ℕ → ℕ) (x : ℕ) → must_cancel f (Decided o) ≡ Undecided x → {A : Type 0} → A
  unfolding must_cancel
  cancelled o f x e = by (eqb (xor_all f 9) 0) e
    where
      by : (b : Bool) → cond b (Decided Answered) (Decided o) ≡ Undecided x → {A : Type 0} → A
      by true e = apart e
      by false e = apart e

  -- the nine words of pass three don't xor to zero
  left : (x : ℕ) → must_cancel (pass_three m cws) (Undecided (xor_all (pass_three m cws) 9)) ≡ Undecided x
      → (x ≡ xor_all (pass_three m cws) 9) × (xor_all (pass_three m cws) 9 ≢ 0)
  unfolding must_cancel
  left x e = by (eqb (xor_all (pass_three m cws) 9) 0) refl e
    where
      by : (b : Bool) → eqb (xor_all (pass_three m cws) 9) 0 ≡ b → cond b (Decided Answered) (Undecided (xor_all (pass_three m cws) 9)) ≡ Undecided x
          → (x ≡ xor_all (pass_three m cws) 9) × (xor_all (pass_three m cws) 9 ≢ 0)
      by true z q = apart q
      by false z q = (sym (ap (number_or 0) q), eqb-false (xor_all (pass_three m cws) 9) 0 z)

  pub undecided_told : (x : ℕ) → finding_of m cws ≡ Undecided x → UndecidedCase m cws x
  unfolding finding_of finding_by third_finding own_word own_word_by third_word
  undecided_told x e = by (flagged_chips m cws) refl e
    where
      third : (n : ℕ) → beyond_chips m cws ≡ n → 1 < flagged_chips m cws → third_finding n m cws ≡ Undecided x
          → ((k : ℕ) → own_word m cws k ≡ third_word n m cws k) → UndecidedCase m cws x
      third zero c several q same =
          let h = left x q in
          record { several = several; none_beyond = c; xor = h.0; remains = h.1; word = same }
      third (suc zero) c several q same = apart q
      third (suc (suc n)) c several q same = apart q

      by : (n : ℕ) → flagged_chips m cws ≡ n → finding_by n m cws ≡ Undecided x → UndecidedCase m cws x
      by zero c q = cancelled Unlocated (pass_one m cws) x q
      by (suc zero) c q = apart q
      by (suc (suc n)) c q =
          third (beyond_chips m cws) refl (omega (arith, c)) q (λ k. ap (λ (i : ℕ). own_word_by i m cws k) c)

  -- and the other way round
  pub undecided_made : 1 < flagged_chips m cws → beyond_chips m cws ≡ 0 → xor_all (pass_three m cws) 9 ≢ 0
      → finding_of m cws ≡ Undecided (xor_all (pass_three m cws) 9)
  unfolding finding_of finding_by third_finding must_cancel
  undecided_made several none remains = by (flagged_chips m cws) several
    where
      by : (n : ℕ) → 1 < n → finding_by n m cws ≡ Undecided (xor_all (pass_three m cws) 9)
      by zero l = absurd (omega (arith, l))
      by (suc zero) l = absurd (omega (arith, l))
      by (suc (suc n)) l =
          ap (λ (i : ℕ). third_finding i m cws) none
          ∙ ap (λ (b : Bool). cond b (Decided Answered) (Undecided (xor_all (pass_three m cws) 9))) (ne_eqb (xor_all (pass_three m cws) 9) 0 remains)

  fewer : beyond_chips m cws ≤ flagged_chips m cws
  unfolding beyond_chips flagged_chips is_flagged_beyond
  fewer =
      count_le (is_flagged_beyond m cws) (is_flagged m cws) 9 (λ k l. and_first (is_flagged m cws k) (is_beyond (chip_status m k)))

  -- two or more flagged chips beyond mending
  pub two_beyond_lem : 1 < beyond_chips m cws → (finding_of m cws ≡ Decided Uncorrectable) × (own_passes m cws ≡ 3)
  unfolding finding_of finding_by third_finding
  two_beyond_lem two = (by (flagged_chips m cws) several, three_passes several)
    where
      several : 1 < flagged_chips m cws
      several = omega (arith, two, fewer)

      third : (n : ℕ) → 1 < n → third_finding n m cws ≡ Decided Uncorrectable
      third zero l = absurd (omega (arith, l))
      third (suc zero) l = absurd (omega (arith, l))
      third (suc (suc n)) l = refl

      by : (n : ℕ) → 1 < n → finding_by n m cws ≡ Decided Uncorrectable
      by zero l = absurd (omega (arith, l))
      by (suc zero) l = absurd (omega (arith, l))
      by (suc (suc n)) l = third (beyond_chips m cws) two
