-- What the steps of a visit come to, as the code makes them. m stands for the line's bytes, cws for the catch-words. Assumes nothing.
use mathlib.Core.Path.{◌≡◌, refl, sym, ap, ap₂, ◌∙◌}
use mathlib.Core.Bool.{Bool, true, false, cond, true≢false}
use mathlib.Core.List.{List}
use Prim.Native.Nat.{ℕ, zero, suc, ◌+◌, ◌-◌, ◌%◌, ◌^◌, ◌<◌, ◌≤◌}
use native.Mathlib.Omega.{arith}
use lib.Bits.{bit_and, bit_xor}
use lib.Count.{ones, count_trailing_zeros}
use lib.Dec.{eqb, ltb}
use lib.ListN.{get_or, set}
use borrow.Author.Tests.{eqb-true, eqb-false, lt-ltb}
use Rattle.std.proofs.lemmas.Bool.{false_from_ne_true}
use Rattle.code.specs.Code.{check_of, mended, mended_word}
use Rattle.code.specs.XorLaws.{xor_cancel_r}
use Rattle.code.proofs.StatusLaws.{mended_check}
use Rattle.code.specs.TestLaws.{and_first}
use Rattle.cells.specs.Chips.{xor_all, bit, count, mask, AtPlaces}
use Rattle.cells.specs.ChipLaws.{xor_all_but, count_none, count_one, count_le, ones_mask, mask_count, count_mask}
use Rattle.cells.specs.MaskLaws.{no_ones, TakenOff}
use Rattle.cells.specs.Cells.{cell_at}
use Rattle.passes.specs.Passes.{catch_word, pass_one, pass_three, chip_status, is_flagged_beyond, beyond_chips, is_candidate, sent_complement, is_flagged, is_collision, flagged_chips, xor_others}
use Rattle.line.specs.Visit.{third_finding, third_word, must_cancel, finding_by, finding_of, own_word_by, own_word, own_passes, examined_of}
use Rattle.line.specs.Found.{may_answer, ChecksUnlessRefused}
use Rattle.line.specs.FirstTwo.{first_two_of}
use Rattle.line.specs.declared.FirstTwo.{FirstTwo}
use Rattle.passes.proofs.PassLaws.{sent_catch_word, third_sent, flagged_is, flagged_beyond_is}
use Rattle.line.proofs.Places.{placed_set, checked_set}
use Rattle.cells.proofs.Loops.{pending_all, pending_lowest, member_is}
use Rattle.line.specs.declared.Outcome.TheVariants.{Answered, Unlocated, Uncorrectable}
use Rattle.line.specs.declared.Finding.{Finding}
use Rattle.line.specs.declared.Finding.TheVariants.{Decided, Undecided}
use Rattle.passes.proofs.Masks.{collisions_rest}

module _ (m cws : List ℕ) where
  -- the passes made, by the candidates and the flagged chips
  pub passes_made : {c f n : ℕ} → c ≡ mask (is_candidate m cws) 9 → f ≡ mask (is_flagged m cws) 9 → n ≡ cond (eqb c 0) 1 (cond (ltb 1 (ones f)) 3 2)
      → n ≡ own_passes m cws
  unfolding own_passes flagged_chips is_flagged
  passes_made {c} {f} ec ef en =
      en ∙ ap (λ (k : ℕ). cond (eqb c 0) 1 (cond (ltb 1 k) 3 2)) (ap ones ef ∙ ones_mask (is_flagged m cws) 9) ∙ pick (eqb c 0) refl
    where
      some : (n : ℕ) → (n ≡ 0 → ⊥) → 0 < n
      some zero h = absurd (h refl)
      some (suc n) h = omega arith

      few : count (is_flagged m cws) 9 ≤ count (is_candidate m cws) 9
      few = count_le (is_flagged m cws) (is_candidate m cws) 9 (λ k l. and_first (is_candidate m cws k) (sent_complement m cws k))

      by : (b : Bool) → cond b 3 2 ≡ 2 + bit b
      by true = refl
      by false = refl

      pick : (b : Bool) → eqb c 0 ≡ b → cond b 1 (cond (ltb 1 (count (is_flagged m cws) 9)) 3 2) ≡ own_passes m cws
      pick true e =
          let none : count (is_candidate m cws) 9 ≡ 0 = mask_count (is_candidate m cws) 9 (sym ec ∙ eqb-true c 0 e) in
          let no_flag : count (is_flagged m cws) 9 ≡ 0 = omega (arith, few) in
          rw (none, no_flag)
      pick false e =
          by (ltb 1 (count (is_flagged m cws) 9))
          ∙ rw (lt-ltb 0 (count (is_candidate m cws) 9) (some _ (λ z. eqb-false c 0 e (ec ∙ count_mask (is_candidate m cws) 9 z))))

-- ---- steps 3 to 5

-- a number other than 0 and 1 is two or more
from_two : (P : ℕ → Type 0) (n : ℕ) → (n ≡ 0 → ⊥) → (n ≡ 1 → ⊥) → ((i : ℕ) → P (suc (suc i))) → P n
from_two P zero n0 n1 h = absurd (n0 refl)
from_two P (suc zero) n0 n1 h = absurd (n1 refl)
from_two P (suc (suc n)) n0 n1 h = h n

-- a finding, the flagged chips' words and their check bytes are those of steps 3 to 5
pub record Found (m cws : List ℕ) (o : Finding) (ws cs : List ℕ) : Type 0 where
  pub finding : o ≡ finding_of m cws
  pub words : AtPlaces (is_flagged m cws) (own_word m cws) ws 9
  pub checks : ChecksUnlessRefused o (is_flagged m cws) ws cs

-- the one chip of a mask
pub lowest_one : (p : ℕ → Bool) {f k : ℕ} → f ≡ mask p 9 → ones f ≡ 1 → k ≡ count_trailing_zeros 32 f → TakenOff f k (f - 2 ^ count_trailing_zeros 32 f)
lowest_one p {f} ef e ek = pending_lowest (pending_all p ef) (λ z. some (sym e ∙ ap ones z) no_ones) ek refl
  where
    some : {n : ℕ} → 1 ≡ n → n ≡ 0 → ⊥
    some p z = omega arith

only_one : (p : ℕ → Bool) {f k t : ℕ} → f ≡ mask p 9 → ones f ≡ 1 → TakenOff f k t → (j : ℕ) → j < 9 → p j ≡ true → j ≡ k
only_one p {f} {k} ef e h j l t =
    count_one p 9 (omega (arith, sym (ones_mask p 9) ∙ ap ones (sym ef) ∙ e)) j k l h.below t (sym (member_is p ef h.below refl) ∙ h.member)

-- g is what passes one and two gave
module _ (m cws : List ℕ) {g : FirstTwo} (eg : g ≡ first_two_of m cws) where
  parity_is : g.parity ≡ xor_all (pass_one m cws) 9
  parity_is = ap (λ (x : FirstTwo). x.parity) eg

  pub flagged_mask : g.flagged ≡ mask (is_flagged m cws) 9
  flagged_mask = ap (λ (x : FirstTwo). x.flagged) eg

  chips : ones g.flagged ≡ flagged_chips m cws
  unfolding flagged_chips
  chips = ap ones flagged_mask ∙ ones_mask (is_flagged m cws) 9

  -- none flagged
  module _ (e : ones g.flagged ≡ 0) where
    zero_chips : flagged_chips m cws ≡ 0
    zero_chips = sym chips ∙ e

    none : {A : Type 0} (k : ℕ) → k < 9 → is_flagged m cws k ≡ true → A
    unfolding flagged_chips
    none k l t = absurd (true≢false (sym t ∙ count_none (is_flagged m cws) 9 zero_chips k l))

    pub none_found : {o : Finding} → o ≡ cond (eqb g.parity 0) (Decided Answered) (Decided Unlocated) → (ws cs : List ℕ) → Found m cws o ws cs
    unfolding finding_of finding_by must_cancel
    none_found q ws cs =
        record {
          finding = rw (zero_chips, ← parity_is) q;
          words = record { at = λ k l t. none k l t };
          checks = λ a. record { at = λ k l t. none k l t };
        }

  -- one flagged
  module _ (e : ones g.flagged ≡ 1) where
    one_chip : flagged_chips m cws ≡ 1
    one_chip = sym chips ∙ e

    one_finding : Decided Answered ≡ finding_of m cws
    unfolding finding_of finding_by
    one_finding = rw one_chip

    -- a flagged chip's catch-word, taken off the xor of all nine, leaves that of the other eight
    taken_off : (k : ℕ) → k < 9 → is_flagged m cws k ≡ true → bit_xor g.parity (catch_word cws k) ≡ xor_others (pass_one m cws) k
    unfolding xor_others
    taken_off k l t =
        let sent : pass_one m cws k ≡ catch_word cws k = sent_catch_word m cws k (sym (flagged_is m cws k) ∙ t) in
        ap₂ bit_xor (parity_is ∙ xor_all_but (pass_one m cws) 9 k l) (sym sent) ∙ xor_cancel_r _ (pass_one m cws k)

    pub one_found : {k t : ℕ} (ws cs : List ℕ) {vs ds : List ℕ} → TakenOff g.flagged k t → vs ≡ set ws k (bit_xor g.parity (catch_word cws k))
        → ds ≡ set cs k (check_of (bit_xor g.parity (catch_word cws k)))
        → (get_or vs k 0 ≡ bit_xor g.parity (catch_word cws k)) × (get_or ds k 0 ≡ check_of (bit_xor g.parity (catch_word cws k))) → Found m cws (Decided Answered) vs ds
    unfolding own_word own_word_by
    one_found {k} ws cs h ew ec there =
        let v : ℕ = bit_xor g.parity (catch_word cws k) in
        let flagged : is_flagged m cws k ≡ true = sym (member_is (is_flagged m cws) flagged_mask h.below refl) ∙ h.member in
        let word : v ≡ own_word m cws k =
        taken_off k h.below flagged
        ∙ sym (ap (λ (i : ℕ). own_word_by i m cws k) one_chip ∙ ap (λ (b : Bool). cond b (xor_others (pass_one m cws) k) (pass_one m cws k)) flagged) in
        let lone : (A : Type 0) (j : ℕ) → j < 9 → is_flagged m cws j ≡ true → (j ≡ k → ⊥) → A =
        λ A j l t ne. absurd (ne (only_one (is_flagged m cws) flagged_mask e h j l t)) in
        record {
          finding = one_finding;
          words = placed_set (is_flagged m cws) ws ew there.0 (own_word m cws) word (λ j. lone _ j);
          checks = λ a. checked_set (is_flagged m cws) ws ew there.0 cs ec there.1 refl (λ j. lone _ j);
        }

  -- two or more flagged
  module _ (two : 1 < ones g.flagged) where
    several : (P : ℕ → Type 0) → ((n : ℕ) → P (suc (suc n))) → P (flagged_chips m cws)
    several P h = from_two P (flagged_chips m cws) (λ e. omega (arith, chips)) (λ e. omega (arith, chips)) h

    -- by how many of them are beyond mending
    several_finding : (i : ℕ) → beyond_chips m cws ≡ i → third_finding i m cws ≡ finding_of m cws
    unfolding finding_of finding_by
    several_finding i e = several (λ n. third_finding i m cws ≡ finding_by n m cws) (λ n. ap (λ (j : ℕ). third_finding j m cws) (sym e))

    several_word : (i : ℕ) → beyond_chips m cws ≡ i → (k : ℕ) → third_word i m cws k ≡ own_word m cws k
    unfolding own_word own_word_by
    several_word i e k = several (λ n. third_word i m cws k ≡ own_word_by n m cws k) (λ n. ap (λ (j : ℕ). third_word j m cws k) (sym e))

    -- ws and cs are the flagged chips' words and check bytes after mending, x the chips beyond mending, and r the xor of the words sent
    module _ {ws cs : List ℕ} {x r : ℕ} (ew : AtPlaces (is_flagged m cws) (λ k. mended_word (cell_at m k)) ws 9)
        (ec : AtPlaces (is_flagged m cws) (λ k. mended (cell_at m k) % 256) cs 9) (ex : x ≡ mask (is_flagged_beyond m cws) 9)
        (er : r ≡ xor_all (pass_three m cws) 9) where
      sent : (k : ℕ) → k < 9 → is_flagged m cws k ≡ true → get_or ws k 0 ≡ pass_three m cws k
      sent k l t = ew.at k l t ∙ sym (third_sent m cws k)

      beyond_ones : ones x ≡ beyond_chips m cws
      unfolding beyond_chips
      beyond_ones = ap ones ex ∙ ones_mask (is_flagged_beyond m cws) 9

      -- the check byte of a chip that is not beyond mending
      checked : (k : ℕ) → k < 9 → is_flagged m cws k ≡ true → is_flagged_beyond m cws k ≡ false → get_or cs k 0 ≡ check_of (get_or ws k 0)
      unfolding chip_status
      checked k l t b =
          ec.at k l t ∙ mended_check (cell_at m k) (sym (flagged_beyond_is m cws k) ∙ b) ∙ ap check_of (sym (ew.at k l t))

      -- none beyond mending
      pub mended_found : ones x ≡ 0 → {o : Finding} → o ≡ cond (eqb r 0) (Decided Answered) (Undecided r) → Found m cws o ws cs
      unfolding third_finding third_word must_cancel beyond_chips
      mended_found e eo =
          let none : beyond_chips m cws ≡ 0 = sym beyond_ones ∙ e in record {
            finding = eo ∙ ap (λ (y : ℕ). cond (eqb y 0) (Decided Answered) (Undecided y)) er ∙ several_finding 0 none;
            words = record { at = λ k l t. sent k l t ∙ several_word 0 none k };
            checks = λ a. record { at = λ k l t. checked k l t (count_none (is_flagged_beyond m cws) 9 none k l) };
          }

      -- one beyond mending
      pub rebuilt_found : ones x ≡ 1 → {k t : ℕ} {vs ds : List ℕ} → TakenOff x k t → vs ≡ set ws k (bit_xor r (get_or ws k 0))
          → ds ≡ set cs k (check_of (bit_xor r (get_or ws k 0)))
          → (get_or vs k 0 ≡ bit_xor r (get_or ws k 0)) × (get_or ds k 0 ≡ check_of (bit_xor r (get_or ws k 0))) → Found m cws (Decided Answered) vs ds
      unfolding third_finding third_word xor_others is_flagged_beyond
      rebuilt_found e {k} h es ev there =
          let one : beyond_chips m cws ≡ 1 = sym beyond_ones ∙ e in
          let p3 : ℕ → ℕ = pass_three m cws in
          let v : ℕ = bit_xor r (get_or ws k 0) in
          let beyond : is_flagged_beyond m cws k ≡ true = sym (member_is (is_flagged_beyond m cws) ex h.below refl) ∙ h.member in
          let flagged : is_flagged m cws k ≡ true = and_first _ _ beyond in
          let word : v ≡ own_word m cws k =
          ap₂ bit_xor (er ∙ xor_all_but p3 9 k h.below) (sent k h.below flagged)
          ∙ xor_cancel_r _ (p3 k)
          ∙ sym (ap (λ (b : Bool). cond b (xor_others p3 k) (p3 k)) beyond)
          ∙ several_word 1 one k in
          let mends : (j : ℕ) → j < 9 → (j ≡ k → ⊥) → is_flagged_beyond m cws j ≡ false =
          λ j l ne. false_from_ne_true (is_flagged_beyond m cws j) (λ t. ne (only_one (is_flagged_beyond m cws) ex e h j l t)) in
          record {
            finding = several_finding 1 one;
            words =
                placed_set (is_flagged m cws) ws es there.0 (own_word m cws) word
                (λ j l t ne. sent j l t ∙ sym (ap (λ (b : Bool). cond b (xor_others p3 j) (p3 j)) (mends j l ne)) ∙ several_word 1 one j);
            checks = λ a. checked_set (is_flagged m cws) ws es there.0 cs ev there.1 refl (λ j l t ne. checked j l t (mends j l ne));
          }

      -- two or more beyond mending
      pub beyond_found : 1 < ones x → Found m cws (Decided Uncorrectable) ws cs
      unfolding third_finding third_word may_answer
      beyond_found more =
          from_two (λ i. beyond_chips m cws ≡ i → Found m cws (Decided Uncorrectable) ws cs) (beyond_chips m cws) (λ e. omega (arith, beyond_ones))
          (λ e. omega (arith, beyond_ones))
          (λ i e.
          record {
            finding = several_finding (suc (suc i)) e;
            words = record { at = λ k l t. sent k l t ∙ several_word (suc (suc i)) e k };
            checks = λ a. absurd (true≢false (sym a));
          })
          refl

-- ---- all of it

pub examined_is : (m cws : List ℕ) {o : Finding} {c f n : ℕ} → o ≡ finding_of m cws → c ≡ mask (is_candidate m cws) 9 → f ≡ mask (is_flagged m cws) 9
    → n ≡ own_passes m cws → record { finding = o; passes = n; flagged = f; collisions = bit_and c (bit_xor f 511) } ≡ examined_of m cws
unfolding examined_of
examined_is m cws {o} {c} {f} {n} eo ec ef en =
    let ex : bit_and c (bit_xor f 511) ≡ mask (is_collision m cws) 9 = ap₂ (λ (x y : ℕ). bit_and x (bit_xor y 511)) ec ef ∙ collisions_rest m cws in
    λ i. record { finding = eo i; passes = en i; flagged = ef i; collisions = ex i }
