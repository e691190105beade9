-- Demand 1, for each of the six calls and every input.
-- Assumes nothing.
use mathlib.Core.Path.{◌≡◌, refl, sym, ap, ◌∙◌}
use mathlib.Core.Logic.{◌↔◌, ◌≢◌}
use mathlib.Core.Bool.{Bool, true, false, true≢false}
use mathlib.Core.List.{List, [], ◌∷◌, ◌++◌, map}
use Prim.Native.Nat.{ℕ, zero, suc}
use native.Mathlib.Omega.{arith}
use Rattle.code.specs.Lists.{Every}
use Rattle.line.specs.Blame.{Evidence}
use Rattle.line.specs.Visit.{outcome_of, if_answered, written_back, bytes_after, report_of, refusal_of}
use Rattle.line.specs.declared.Report.{Report}
use Rattle.line.specs.declared.Outcome.{Outcome}
use Rattle.line.specs.declared.Outcome.TheVariants.{Answered, Unlocated, Uncorrectable}
use Rattle.record.specs.declared.Rank.{Rank}
use Rattle.record.specs.Record.{fresh, after_visit}
use Rattle.memory.specs.Lines.{line_at, with_line}
use Rattle.rows.specs.Rows.{evidence_of, report_in, bytes_in}
use Rattle.memory.specs.LineLaws.{line_same}
use Rattle.refusals.specs.Refusals.{line_out, buffer_out, chip_out, pattern_out, catch_words_out, memory_out, not_ready, memory_differs, register_differs, unlocated, uncorrectable, task_out, refused_if, refused20, refused21, refused2, first_of, visit_refusals, boot_refusal, write_refusal, read_tests, read_refusal, patrol_refusal, renew_refusal, fault_refusal}
use Rattle.refusals.specs.RefusalLaws.{first_of_both}
use Rattle.refusals.proofs.VisitRefusalLaws.{visit_refusal}
use Rattle.visits.specs.Visits.{visit_of, result_of, read_by}
use Rattle.rank.specs.Calls.{boot_by, boot_of, write_by, write_of, read_of, patrol_lines, patrol_by, patrol_of, renew_by, renew_of, fault_by, fault_of}
use Rattle.claims.specs.Demand1.{BootRefusals, WriteRefusals, ReadRefusals, PatrolRefusals, RenewRefusals, FaultRefusals}

-- a condition, and its number less one
abbrev Test : Type 0
Test = Bool × ℕ

-- the first refusal of a list is 0 exactly where none of its conditions holds
first_none : (ts : List Test)
    → (first_of (map (λ (t : Test). refused_if t.0 (suc t.1)) ts) ≡ 0) ↔ Every (λ (t : Test). t.0 ≡ false) ts
first_none [] = (λ e. tt, λ h. refl)
first_none (t ∷ ts) = by t.0 (first_none ts)
  where
    rest : List ℕ
    rest = map (λ (t : Test). refused_if t.0 (suc t.1)) ts

    by : (b : Bool) → (first_of rest ≡ 0) ↔ Every (λ (t : Test). t.0 ≡ false) ts
        → (first_of (refused_if b (suc t.1) ∷ rest) ≡ 0) ↔ ((b ≡ false) × Every (λ (t : Test). t.0 ≡ false) ts)
    by true ih = (λ e. absurd (omega arith), λ h. absurd (true≢false h.0))
    by false ih = (λ e. (refl, ih.0 e), λ h. ih.1 h.1)

-- what holds exactly where a number is 0 holds exactly where an equal number is
carried : {A : Type 0} {x n : ℕ} → x ≡ n → (n ≡ 0) ↔ A → (x ≡ 0) ↔ A
carried e f = (λ z. f.0 (sym e ∙ z), λ h. e ∙ f.1 h)

pub boot_refusals : (m cws : List ℕ) → BootRefusals m cws
unfolding boot_of boot_by boot_refusal
boot_refusals m cws =
    record {
      number = is (boot_refusal m cws);
      accepts = carried (is (boot_refusal m cws)) (first_none ((memory_out m, 10) ∷ (catch_words_out cws, 4) ∷ []));
      keeps = keeps (boot_refusal m cws);
    }
  where
    is : (n : ℕ) → (boot_by n m cws).result.refusal ≡ n
    is zero = refl
    is (suc n) = refl

    keeps : (n : ℕ) → (boot_by n m cws).result.refusal ≢ 0 → ((boot_by n m cws).memory ≡ m) × ((boot_by n m cws).result.rank ≡ fresh)
    keeps zero h = absurd (h refl)
    keeps (suc n) h = (refl, refl)

pub write_refusals : (r : Rank) (m : List ℕ) (l : ℕ) (b : List ℕ) → WriteRefusals r m l b
unfolding write_of write_by write_refusal
write_refusals r m l b =
    record {
      number = is (write_refusal r m l b);
      accepts =
          carried (is (write_refusal r m l b))
          (first_none ((not_ready r, 11) ∷ (memory_differs r m, 12) ∷ (register_differs r, 13) ∷ (line_out r l, 0) ∷ (buffer_out b, 1) ∷ []));
      keeps = keeps (write_refusal r m l b);
    }
  where
    is : (n : ℕ) → (write_by n r m l b).result.refusal ≡ n
    is zero = refl
    is (suc n) = refl

    keeps : (n : ℕ) → (write_by n r m l b).result.refusal ≢ 0 → ((write_by n r m l b).memory ≡ m) × ((write_by n r m l b).result.rank ≡ r)
    keeps zero h = absurd (h refl)
    keeps (suc n) h = (refl, refl)

-- what a refused visit leaves of a memory, a buffer and a record
visit_keeps : (o : Outcome) → refusal_of o ≢ 0 → {A B C : Type 0} (a a' : A) (b b' : B) (c c' : C)
    → (if_answered o a a' ≡ a') × (if_answered o b b' ≡ b') × (if_answered o c c' ≡ c')
unfolding refusal_of
visit_keeps Answered h a a' b b' c c' = absurd (h refl)
visit_keeps Unlocated h a a' b b' c c' = (refl, refl, refl)
visit_keeps Uncorrectable h a a' b b' c c' = (refl, refl, refl)

pub read_refusals : (r : Rank) (m : List ℕ) (task l : ℕ) (b : List ℕ) → ReadRefusals r m task l b
unfolding read_of read_by result_of visit_of report_in report_of bytes_in bytes_after after_visit read_tests read_refusal
read_refusals r m task l b =
    record {
      number = number;
      accepts =
          carried number
          (first_none (
          (not_ready r, 11)
          ∷ (memory_differs r m, 12)
          ∷ (register_differs r, 13)
          ∷ (task_out task, 30)
          ∷ (line_out r l, 0)
          ∷ (buffer_out b, 1)
          ∷ (unlocated r m l, 19)
          ∷ (uncorrectable r m l, 20)
          ∷ []
          ));
      keeps = keeps (read_tests r m task l b);
      zero = none (read_tests r m task l b);
      reached = reached (read_tests r m task l b);
    }
  where
    cws : List ℕ
    cws = r.catch_words

    x : List ℕ
    x = line_at m l

    e : Evidence
    e = evidence_of r.lines m l r.catch_words

    v : Report
    v = report_in r.lines m l r.catch_words

    -- its own number, or that of the visit
    is : (n : ℕ) → (read_by n r m task l b).result.refusal ≡ first_of (n ∷ refused20 r m l ∷ refused21 r m l ∷ [])
    is zero = visit_refusal r m l
    is (suc n) = refl

    number : (read_by (read_tests r m task l b) r m task l b).result.refusal ≡ read_refusal r m task l b
    number =
        is (read_tests r m task l b)
        ∙ first_of_both (visit_refusals r m task l ++ (refused2 b ∷ [])) (refused20 r m l ∷ refused21 r m l ∷ [])

    keeps : (n : ℕ) → (read_by n r m task l b).result.refusal ≢ 0
        → ((read_by n r m task l b).memory ≡ m) × ((read_by n r m task l b).buffer ≡ b) × ((read_by n r m task l b).result.rank ≡ r)
    keeps zero h =
        let k = visit_keeps (outcome_of e x cws) h (written_back e x cws) x _ b _ r in
        (ap (with_line m l) k.0 ∙ line_same m l, k.1, k.2)
    keeps (suc n) h = (refl, refl, refl)

    none : (n : ℕ) → n ≢ 0
        → ((read_by n r m task l b).result.passes ≡ 0) × ((read_by n r m task l b).result.flagged ≡ 0)
        × ((read_by n r m task l b).result.collisions ≡ 0)
    none zero h = absurd (h refl)
    none (suc n) h = (refl, refl, refl)

    reached : (n : ℕ) → n ≡ 0
        → ((read_by n r m task l b).result.passes ≡ v.passes) × ((read_by n r m task l b).result.flagged ≡ v.flagged)
        × ((read_by n r m task l b).result.collisions ≡ v.collisions)
    reached zero h = (refl, refl, refl)
    reached (suc n) h = absurd (omega (arith, h))

pub patrol_refusals : (r : Rank) (m : List ℕ) (task first budget : ℕ) → PatrolRefusals r m task first budget
unfolding patrol_of patrol_by patrol_lines patrol_refusal
patrol_refusals r m task first budget =
    record {
      number = is (patrol_refusal r m task first);
      accepts =
          carried (is (patrol_refusal r m task first))
          (first_none ((not_ready r, 11) ∷ (memory_differs r m, 12) ∷ (register_differs r, 13) ∷ (task_out task, 30) ∷ (line_out r first, 0) ∷ []));
      keeps = keeps (patrol_refusal r m task first);
      zero = none (patrol_refusal r m task first);
    }
  where
    is : (n : ℕ) → (patrol_by n r m task first budget).result.refusal ≡ n
    is zero = refl
    is (suc n) = refl

    keeps : (n : ℕ) → (patrol_by n r m task first budget).result.refusal ≢ 0
        → ((patrol_by n r m task first budget).memory ≡ m) × ((patrol_by n r m task first budget).result.rank ≡ r)
    keeps zero h = absurd (h refl)
    keeps (suc n) h = (refl, refl)

    none : (n : ℕ) → (patrol_by n r m task first budget).result.refusal ≢ 0
        → ((patrol_by n r m task first budget).result.visited ≡ 0) × ((patrol_by n r m task first budget).result.refused ≡ 0)
        × ((patrol_by n r m task first budget).result.rewritten ≡ 0)
    none zero h = absurd (h refl)
    none (suc n) h = (refl, refl, refl)

pub renew_refusals : (r : Rank) (k w : ℕ) → RenewRefusals r k w
unfolding renew_of renew_by renew_refusal
renew_refusals r k w =
    record {
      number = is (renew_refusal r k);
      accepts = carried (is (renew_refusal r k)) (first_none ((not_ready r, 11) ∷ (register_differs r, 13) ∷ (chip_out k, 2) ∷ []));
      keeps = keeps (renew_refusal r k);
    }
  where
    is : (n : ℕ) → (renew_by n r k w).refusal ≡ n
    is zero = refl
    is (suc n) = refl

    keeps : (n : ℕ) → (renew_by n r k w).refusal ≢ 0 → (renew_by n r k w).rank ≡ r
    keeps zero h = absurd (h refl)
    keeps (suc n) h = refl

pub fault_refusals : (r : Rank) (m : List ℕ) (l k : ℕ) (p : List ℕ) → FaultRefusals r m l k p
unfolding fault_of fault_by fault_refusal
fault_refusals r m l k p =
    record {
      number = is (fault_refusal r m l k p);
      accepts =
          carried (is (fault_refusal r m l k p))
          (first_none (
          (not_ready r, 11) ∷ (memory_differs r m, 12) ∷ (register_differs r, 13) ∷ (line_out r l, 0) ∷ (chip_out k, 2) ∷ (pattern_out p, 3) ∷ []
          ));
      keeps = keeps (fault_refusal r m l k p);
    }
  where
    is : (n : ℕ) → (fault_by n r m l k p).result.refusal ≡ n
    is zero = refl
    is (suc n) = refl

    keeps : (n : ℕ) → (fault_by n r m l k p).result.refusal ≢ 0
        → ((fault_by n r m l k p).memory ≡ m) × ((fault_by n r m l k p).result.rank ≡ r)
    keeps zero h = absurd (h refl)
    keeps (suc n) h = (refl, refl)
