-- The record after a visit.
-- Assumes nothing.
use Rattle.std.specs.Prelude.{◌≡◌, ℕ, zero, suc, ◌+◌, ◌<◌, ◌≤◌, min, Bool, true, false, cond, ltb, ◌≢◌, List, [], ◌∷◌, length, set, ◌==◌, count_ones, nat_lt, slice_index, slice_index_or, slice_set, refl}
use Rattle.std.proofs.Math.Path.{sym, ap}
use Rattle.std.proofs.Common.{◌∙◌, zero-le, arith, length-set, get_or-set_same, get_or-set_other}
use Rattle.std.proofs.lemmas.List.{set-get_or}
use borrow.Author.Tests.{ltb-true, ltb-false, eqb-true, eqb-false, lt-ltb, le-ltb}
use Rattle.cells.specs.MaskLaws.{no_ones, no_member}
use Rattle.cells.specs.ChipLaws.{of_chips_ext, of_chips_list, length_of_chips}
use Rattle.line.specs.Visit.{refusal_of, if_answered}
use Rattle.line.specs.OutcomeLaws.{either_answered}
use Rattle.line.specs.declared.Report.{Report}
use Rattle.line.specs.declared.Outcome.{Outcome}
use Rattle.line.specs.declared.Outcome.TheVariants.{Answered, Unlocated, Uncorrectable}
use Rattle.record.specs.declared.Rank.{Rank}
use Rattle.record.specs.Record.{total_limit, accepted, grown, moved, moved_by, counted, counted_by, after_answer, after_visit}

-- ---- the totals

pub length_counted : (task n : ℕ) (totals : List ℕ) → length (counted task n totals) ≡ length totals
unfolding counted
length_counted task n totals = length-set totals task _

-- the task's own total
pub counted_own : (task n : ℕ) (totals : List ℕ) → task < length totals
    → slice_index (counted task n totals) task ≡ min (slice_index totals task + n) total_limit
unfolding counted
counted_own task n totals l = get_or-set_same totals task _ 0 l

-- another task's total stays
pub counted_other : (task other n : ℕ) (totals : List ℕ) → task ≢ other → slice_index (counted task n totals) other ≡ slice_index totals other
unfolding counted
counted_other task other n totals ne = get_or-set_other totals task other _ 0 (λ e. ne (sym e))

-- no repairs leave every total
counted_none : (task : ℕ) (totals : List ℕ) → slice_index totals task ≤ total_limit → counted task 0 totals ≡ totals
unfolding counted
counted_none task totals few =
    let e : min (slice_index totals task + 0) total_limit ≡ slice_index_or totals task 0 = omega (arith, few) in
    ap (set totals task) e ∙ set-get_or totals task 0

-- the totals once a loop over them has passed those below i
abbrev pub counted_below : ℕ → ℕ → List ℕ → ℕ → List ℕ
counted_below task n totals i = cond (nat_lt task i) (counted task n totals) totals

-- at the start it has passed none
pub counted_start : (task n : ℕ) (totals : List ℕ) → totals ≡ counted_below task n totals 0
counted_start task n totals = ap (λ (b : Bool). cond b (counted task n totals) totals) (sym (le-ltb task 0 zero-le))

-- the next total grows by n if it is the task's, else by none
module _ (task n : ℕ) (totals : List ℕ) (i : ℕ) where
  own_passed : task ≡ i → slice_set (counted_below task n totals i) i (min (slice_index totals i + n) total_limit) ≡ counted_below task n totals (i + 1)
  unfolding counted
  own_passed e =
      let before : ltb task i ≡ false = le-ltb task i (omega arith) in
      let after : ltb task (i + 1) ≡ true = lt-ltb task (i + 1) (omega arith) in
      ap (λ (b : Bool). set (cond b (counted task n totals) totals) i (min (slice_index totals i + n) total_limit)) before
      ∙ ap (λ (j : ℕ). counted j n totals) (sym e)
      ∙ ap (λ (b : Bool). cond b (counted task n totals) totals) (sym after)

  other_passed : task ≢ i → slice_set (counted_below task n totals i) i (slice_index totals i) ≡ counted_below task n totals (i + 1)
  other_passed ne = pick (nat_lt task i) refl
    where
      pick : (b : Bool) → nat_lt task i ≡ b → slice_set (cond b (counted task n totals) totals) i (slice_index totals i) ≡ counted_below task n totals (i + 1)
      pick true e =
          let below : task < i = ltb-true task i e in
          let after : ltb task (i + 1) ≡ true = lt-ltb task (i + 1) (omega arith) in
          ap (set (counted task n totals) i) (sym (counted_other task i n totals ne))
          ∙ set-get_or (counted task n totals) i 0
          ∙ ap (λ (b : Bool). cond b (counted task n totals) totals) (sym after)
      pick false e =
          let above : i ≤ task = ltb-false task i e in
          let after : ltb task (i + 1) ≡ false = le-ltb task (i + 1) (omega (arith, ne)) in
          set-get_or totals i 0 ∙ ap (λ (b : Bool). cond b (counted task n totals) totals) (sym after)

  pub counted_next : {v : ℕ} → slice_index totals i ≤ total_limit → v ≡ min (slice_index totals i + cond (task == i) n 0) total_limit
      → slice_set (counted_below task n totals i) i v ≡ counted_below task n totals (i + 1)
  counted_next {v} few e = ap (set (counted_below task n totals i) i) e ∙ pick (task == i) refl
    where
      pick : (b : Bool) → (task == i) ≡ b
          → slice_set (counted_below task n totals i) i (min (slice_index totals i + cond b n 0) total_limit) ≡ counted_below task n totals (i + 1)
      pick true e = own_passed (eqb-true task i e)
      pick false e =
          let none : min (slice_index totals i + 0) total_limit ≡ slice_index_or totals i 0 = omega (arith, few) in
          ap (set (counted_below task n totals i) i) none ∙ other_passed (eqb-false task i e)

-- where it stands, the total is as it was
pub counted_here : (task n : ℕ) (totals : List ℕ) (i : ℕ) → slice_index (counted_below task n totals i) i ≡ slice_index totals i
counted_here task n totals i = pick (nat_lt task i) refl
  where
    pick : (b : Bool) → nat_lt task i ≡ b → slice_index (cond b (counted task n totals) totals) i ≡ slice_index totals i
    pick true e = let ne : task < i = ltb-true task i e in counted_other task i n totals (λ same. omega (arith, same))
    pick false e = refl

-- and once it has passed them all, the task's among them
pub counted_all : (task n : ℕ) (totals : List ℕ) (i : ℕ) → task < i → counted_below task n totals i ≡ counted task n totals
counted_all task n totals i l = ap (λ (b : Bool). cond b (counted task n totals) totals) (lt-ltb task i l)

-- totals within their limit, after one was set within it
set_within : (xs : List ℕ) (i y : ℕ) → y ≤ total_limit → ((j : ℕ) → slice_index xs j ≤ total_limit) → (j : ℕ) → slice_index (slice_set xs i y) j ≤ total_limit
set_within [] i y h few = few
set_within (x ∷ xs) zero y h few = λ j. elim j as (λ (v : ℕ). slice_index (slice_set (x ∷ xs) zero y) v ≤ total_limit) [ zero ↦ h | suc n ↦ few (suc n) ]
set_within (x ∷ xs) (suc i) y h few = λ j. elim j as (λ (v : ℕ). slice_index (slice_set (x ∷ xs) (suc i) y) v ≤ total_limit) [ zero ↦ few 0 | suc n ↦ set_within xs i y h (λ k. few (suc k)) n ]

-- ---- a visit by the number of its outcome, part by part

pub moved_refused : (n c : ℕ) (ws : List ℕ) → n ≢ 0 → moved_by n c ws ≡ ws
unfolding moved_by
moved_refused zero c ws h = absurd (h refl)
moved_refused (suc n) c ws h = refl

pub moved_answered : (n c : ℕ) (ws : List ℕ) → n ≡ 0 → moved_by n c ws ≡ moved c ws
unfolding moved_by
moved_answered n c ws e = ap (λ (k : ℕ). moved_by k c ws) e

pub counted_refused : (n task f : ℕ) (totals : List ℕ) → n ≢ 0 → counted_by n task f totals ≡ totals
unfolding counted_by
counted_refused zero task f totals h = absurd (h refl)
counted_refused (suc n) task f totals h = refl

pub counted_answered : (n task f : ℕ) (totals : List ℕ) → n ≡ 0 → counted_by n task f totals ≡ counted task (count_ones f) totals
unfolding counted_by
counted_answered n task f totals e = ap (λ (k : ℕ). counted_by k task f totals) e

-- without collisions no word moves
moved_none : (ws : List ℕ) → length ws ≡ 9 → moved 0 ws ≡ ws
unfolding moved
moved_none ws size =
    of_chips_ext _ (λ k. slice_index ws k) 9 (λ k l. ap (λ (t : Bool). cond t (grown (slice_index ws k)) (slice_index ws k)) (no_member k l))
    ∙ of_chips_list ws 9 size

pub unmoved : (n : ℕ) (ws : List ℕ) → length ws ≡ 9 → moved_by n 0 ws ≡ ws
unfolding moved_by
unmoved zero ws size = moved_none ws size
unmoved (suc n) ws size = refl

-- without flagged chips no total grows
pub uncounted : (n task : ℕ) (totals : List ℕ) → slice_index totals task ≤ total_limit → counted_by n task 0 totals ≡ totals
unfolding counted_by
uncounted zero task totals few = ap (λ (k : ℕ). counted task k totals) no_ones ∙ counted_none task totals few
uncounted (suc n) task totals few = refl

-- registers that equal the catch-words, set to them where chips collide
pub registers_set : (n c : ℕ) (regs cws : List ℕ) → regs ≡ cws → length regs ≡ 9 → cond (c == 0) regs (moved_by n c cws) ≡ moved_by n c regs
registers_set n c regs cws e size = by (c == 0) refl
  where
    by : (t : Bool) → (c == 0) ≡ t → cond t regs (moved_by n c cws) ≡ moved_by n c regs
    by true t = sym (ap (λ (k : ℕ). moved_by n k regs) (eqb-true c 0 t) ∙ unmoved n regs size)
    by false t = ap (moved_by n c) (sym e)

-- the record after a visit, put together
pub after_visit_parts : (task : ℕ) (v : Report) (r : Rank) → after_visit task v r
    ≡ record {
      lines = r.lines;
      enable = r.enable;
      catch_words = moved_by (refusal_of v.outcome) v.collisions r.catch_words;
      registers = moved_by (refusal_of v.outcome) v.collisions r.registers;
      repairs = counted_by (refusal_of v.outcome) task v.flagged r.repairs;
    }
unfolding after_visit after_answer refusal_of moved_by counted_by
after_visit_parts task v r = by v.outcome
  where
    by : (o : Outcome)
        → if_answered o (after_answer task v r) r
        ≡ record {
          lines = r.lines;
          enable = r.enable;
          catch_words = moved_by (refusal_of o) v.collisions r.catch_words;
          registers = moved_by (refusal_of o) v.collisions r.registers;
          repairs = counted_by (refusal_of o) task v.flagged r.repairs;
        }
    by Answered = refl
    by Unlocated = refl
    by Uncorrectable = refl

-- a visit that reports no chip leaves the record as it was
pub after_visit_none : (task : ℕ) (v : Report) (r : Rank) → v.flagged ≡ 0 → v.collisions ≡ 0 → length r.catch_words ≡ 9
    → length r.registers ≡ 9 → slice_index r.repairs task ≤ total_limit → after_visit task v r ≡ r
after_visit_none task v r flagged collisions words registers few =
    let n : ℕ = refusal_of v.outcome in
    let same : (ws : List ℕ) → length ws ≡ 9 → moved_by n v.collisions ws ≡ ws =
    λ ws size. ap (λ (c : ℕ). moved_by n c ws) collisions ∙ unmoved n ws size in
    let totals : counted_by n task v.flagged r.repairs ≡ r.repairs =
    ap (λ (f : ℕ). counted_by n task f r.repairs) flagged ∙ uncounted n task r.repairs few in
    after_visit_parts task v r
    ∙ (λ i. record {
      lines = r.lines;
      enable = r.enable;
      catch_words = same r.catch_words words i;
      registers = same r.registers registers i;
      repairs = totals i;
    })

-- ---- the record of an accepted call

-- Enable is set and the registers equal the catch-words
module _ (r : Rank) (enabled : r.enable ≡ true) (equal : r.registers ≡ r.catch_words) where
  -- the record is the one made of its N, catch-words and totals
  pub accepted_same : accepted r.lines r.catch_words r.repairs ≡ r
  unfolding accepted
  accepted_same = λ i. record {
    lines = r.lines;
    enable = sym enabled i;
    catch_words = r.catch_words;
    registers = sym equal i;
    repairs = r.repairs;
  }

-- after a visit it is put together from the catch-words and the totals after it
pub accepted_after_visit : (task : ℕ) (v : Report) (n : ℕ) (cws totals : List ℕ)
    → accepted n (moved_by (refusal_of v.outcome) v.collisions cws) (counted_by (refusal_of v.outcome) task v.flagged totals)
    ≡ after_visit task v (accepted n cws totals)
unfolding accepted
accepted_after_visit task v n cws totals = sym (after_visit_parts task v (accepted n cws totals))

-- ---- lengths and limits after a visit

-- there are nine catch-words
pub length_after_visit : (task : ℕ) (v : Report) (r : Rank) → length r.catch_words ≡ 9 → length (after_visit task v r).catch_words ≡ 9
unfolding after_visit after_answer moved
length_after_visit task v r nine = either_answered (λ (x : Rank). length x.catch_words ≡ 9) v.outcome (length_of_chips _ 9) nine

-- the totals are within their limit
pub total_after_visit : (task : ℕ) (v : Report) (r : Rank) → ((i : ℕ) → slice_index r.repairs i ≤ total_limit)
    → (i : ℕ) → slice_index (after_visit task v r).repairs i ≤ total_limit
unfolding after_visit after_answer counted
total_after_visit task v r few =
    either_answered (λ (x : Rank). (i : ℕ) → slice_index x.repairs i ≤ total_limit) v.outcome (set_within r.repairs task _ (omega arith) few) few
