-- The words rewritten by the memory's bytes: along every list of calls the chips whose nine bytes are others after a read or patrol are as
-- many as these report, and so the eight totals count them.
-- Assumes nothing.
use mathlib.Core.Path.{◌≡◌, refl, sym, ap, ap₂, ◌∙◌}
use mathlib.Core.Logic.{◌≢◌, ◌⊎◌, inl, inr}
use mathlib.Core.Bool.{Bool, true, false, not, cond}
use mathlib.Core.List.{List, [], ◌∷◌}
use Prim.Native.Nat.{ℕ, zero, suc, ◌+◌, ◌-◌, ◌*◌, ◌<◌, ◌≤◌, min, zero-le}
use native.Mathlib.Omega.{arith}
use lib.Dec.{eqb, ltb}
use lib.ListN.{length}
use borrow.Author.Tests.{eqb-true, eqb-false, eq-eqb, ltb-true, ltb-false}
use Rattle.cells.specs.Cells.{chip_at}
use Rattle.words.specs.Bytes.{number_of, Bytes}
use Rattle.cells.specs.ChipLaws.{count_zero}
use Rattle.line.specs.Blame.{Evidence}
use Rattle.line.specs.Visit.{bytes_after}
use Rattle.line.proofs.AnsweredLaws.{length_after}
use Rattle.visits.specs.Runs.{outs, end}
use Rattle.code.specs.ListLaws.{sum_range}
use Rattle.code.specs.Lists.{up_from, Every}
use Rattle.memory.specs.Lines.{line_at, with_line}
use Rattle.rows.specs.Rows.{evidence_of, report_in, bytes_in}
use Rattle.memory.specs.LineLaws.{length_with_line, bytes_line, length_line_at, line_laid, line_other}
use Rattle.record.specs.Record.{total_limit}
use Rattle.refusals.specs.Refusals.{read_tests, patrol_refusal}
use Rattle.refusals.specs.RefusalLaws.{read_passed, patrol_passed}
use Rattle.visits.specs.Visits.{Device, visit_of, rewritten_in, read_by}
use Rattle.rank.specs.Calls.{read_of, patrolled, patrol_lines, patrol_by, patrol_of}
use Rattle.claims.specs.Lists.{Call, write, read, patrol, renew, fault, Typed, device_call}
use Rattle.claims.specs.Claim.{booted_device}
use Rattle.claims.specs.Tasks.{Counting, rewrites_by, rewrites, changed_chips, changed_lines, changed_by, names, for_task, sum_along, all_rewritten, rewritten_for, TotalsChanged}
use Rattle.claims.proofs.Totals.{read_rewrites, sum_add, sum_zero, sum_own, totals_counted}
use Rattle.claims.proofs.Rewritten.{rewritten_changed}
use Rattle.claims.proofs.MemoryBytes.{visit_bytes, BytesIfEnabled, call_bytes, boot_bytes}

-- ---- chips that differ between lines and between memories

-- a line that stays has none
changed_none : (x y : List ℕ) → x ≡ y → changed_chips x y ≡ 0
unfolding changed_chips
changed_none x y e =
    count_zero _ 9 (λ k l. ap not (eq-eqb (number_of (chip_at x k)) (number_of (chip_at y k)) (ap (λ (z : List ℕ). number_of (chip_at z k)) e)))

-- a line that stays in one of two steps
changed_both : (x y z : List ℕ) → (x ≡ y) ⊎ (y ≡ z) → changed_chips x z ≡ changed_chips x y + changed_chips y z
changed_both x y z (inl e) =
    let same : changed_chips x z ≡ changed_chips y z = ap (λ (w : List ℕ). changed_chips w z) e in
    omega (arith, same, changed_none x y e)
changed_both x y z (inr e) =
    let same : changed_chips x z ≡ changed_chips x y = ap (changed_chips x) (sym e) in
    omega (arith, same, changed_none y z e)

module _ (n : ℕ) where
  -- a memory that stays has none
  lines_none : (x : List ℕ) → changed_lines n x x ≡ 0
  unfolding changed_lines
  lines_none x = sum_zero _ (up_from 0 n) (λ l. changed_none (line_at x l) (line_at x l) refl)

  -- two steps, of which each line stays in one
  lines_both : (x y z : List ℕ) → ((l : ℕ) → (line_at x l ≡ line_at y l) ⊎ (line_at y l ≡ line_at z l))
      → changed_lines n x z ≡ changed_lines n x y + changed_lines n y z
  unfolding changed_lines
  lines_both x y z h =
      sum_range _ _ 0 n (λ l _ b. changed_both (line_at x l) (line_at y l) (line_at z l) (h l)) ∙ sum_add _ _ (up_from 0 n)

  -- one line laid
  line_changed : (m : List ℕ) (l : ℕ) (bs : List ℕ) → length m ≡ 81 * n → l < n → length bs ≡ 81
      → changed_lines n m (with_line m l bs) ≡ changed_chips (line_at m l) bs
  unfolding changed_lines
  line_changed m l bs size in_n full = sum_range _ _ 0 n (λ j _ b. by j (eqb l j) refl) ∙ sum_own l _ n 0 zero-le (omega arith)
    where
      fits : 81 * l + 81 ≤ length m
      fits = omega (arith, size)

      by : (j : ℕ) (b : Bool) → eqb l j ≡ b
          → changed_chips (line_at m j) (line_at (with_line m l bs) j) ≡ cond b (changed_chips (line_at m l) bs) 0
      by j true e =
          let same : j ≡ l = sym (eqb-true l j e) in
          ap (λ (i : ℕ). changed_chips (line_at m i) (line_at (with_line m l bs) i)) same
          ∙ ap (changed_chips (line_at m l)) (line_laid m l fits bs full)
      by j false e =
          changed_none (line_at m j) _ (sym (line_other m l fits bs full j (λ same. eqb-false l j e (sym same))))

  -- ---- visits

  module _ (task : ℕ) where
    -- a visit to a line in the memory
    module _ (d : Device) (l : ℕ) (size : length d.memory ≡ 81 * n) (in_n : l < n) where
      fits : 81 * l + 81 ≤ length d.memory
      fits = omega (arith, size)

      full : length (line_at d.memory l) ≡ 81
      full = length_line_at d.memory l fits

      -- the memory keeps its length
      visit_size : length (visit_of task d l).now.memory ≡ 81 * n
      unfolding visit_of
      visit_size = length_with_line d.memory l _ ∙ size

      -- the other lines stay
      visit_other : (j : ℕ) → j ≢ l → line_at d.memory j ≡ line_at (visit_of task d l).now.memory j
      unfolding visit_of bytes_in
      visit_other j ne = sym (line_other d.memory l fits _ (length_after _ (line_at d.memory l) _ full) j ne)

    -- the lines below those visited stay
    lines_below : (k l : ℕ) (d : Device) → length d.memory ≡ 81 * n → l + k ≤ n → (j : ℕ) → j < l
        → line_at d.memory j ≡ line_at (end (visit_of task) d (up_from l k)).memory j
    lines_below zero l d size in_n j below = refl
    lines_below (suc k) l d size in_n j below =
        let here : l < n = omega (arith, in_n) in
        visit_other d l size here j (omega arith)
        ∙ lines_below k (suc l) (visit_of task d l).now (visit_size d l size here) (omega (arith, in_n)) j (omega arith)

    -- as many words as they report
    visits_changed : (k l : ℕ) (d : Device) → length d.memory ≡ 81 * n → Bytes d.memory → l + k ≤ n
        → rewritten_in (outs (visit_of task) d (up_from l k)) ≡ changed_lines n d.memory (end (visit_of task) d (up_from l k)).memory
    unfolding visit_of report_in bytes_in rewritten_in
    visits_changed zero l d size bytes in_n = sym (lines_none d.memory)
    visits_changed (suc k) l d size bytes in_n =
        ap₂ (λ (i j : ℕ). i + j)
        (rewritten_changed ev x cws eighty_one (bytes_line d.memory l bytes)
        ∙ sym (line_changed d.memory l (bytes_after ev x cws) size here (length_after ev x cws eighty_one)))
        (visits_changed k (suc l) e sized (visit_bytes task d l bytes) more)
        ∙ sym (lines_both d.memory e.memory last (λ j. by j (ltb l j) refl))
      where
        x : List ℕ
        x = line_at d.memory l

        cws : List ℕ
        cws = d.rank.catch_words

        ev : Evidence
        ev = evidence_of d.rank.lines d.memory l d.rank.catch_words

        e : Device
        e = (visit_of task d l).now

        here : l < n
        here = omega (arith, in_n)

        more : suc l + k ≤ n
        more = omega (arith, in_n)

        eighty_one : length x ≡ 81
        eighty_one = full d l size here

        sized : length e.memory ≡ 81 * n
        sized = visit_size d l size here

        last : List ℕ
        last = (end (visit_of task) e (up_from (suc l) k)).memory

        by : (j : ℕ) (b : Bool) → ltb l j ≡ b → (line_at d.memory j ≡ line_at e.memory j) ⊎ (line_at e.memory j ≡ line_at last j)
        by j true above = inl (visit_other d l size here j (omega (arith, ltb-true l j above)))
        by j false below = inr (lines_below k (suc l) e sized more j (omega (arith, ltb-false l j below)))

-- ---- a call, and a list of them

-- as many words as it reports
call_changed : (d : Device) (c : Call) → BytesIfEnabled d → rewrites d c ≡ changed_by d c
unfolding rewrites changed_by device_call read_of read_by patrol_of patrol_by patrol_lines patrolled
call_changed d (write l b) h = refl
call_changed d (read task l b) h = by (read_tests d.rank d.memory task l b) refl
  where
    by : (n : ℕ) → read_tests d.rank d.memory task l b ≡ n
        → rewrites_by (read_by n d.rank d.memory task l b).result.refusal (read_by n d.rank d.memory task l b).result.flagged
        ≡ changed_lines d.rank.lines d.memory (read_by n d.rank d.memory task l b).memory
    by zero e =
        let a = read_passed d.rank d.memory task l b e in
        read_rewrites d task l b ∙ visits_changed d.rank.lines task 1 l d a.0.size (h a.0.enabled) (omega (arith, a.2))
    by (suc n) e = sym (lines_none d.rank.lines d.memory)
call_changed d (patrol task first budget) h = by (patrol_refusal d.rank d.memory task first) refl
  where
    by : (n : ℕ) → patrol_refusal d.rank d.memory task first ≡ n
        → (patrol_by n d.rank d.memory task first budget).result.rewritten
        ≡ changed_lines d.rank.lines d.memory (patrol_by n d.rank d.memory task first budget).memory
    by zero e =
        let a = patrol_passed d.rank d.memory task first e in
        let n : ℕ = d.rank.lines in
        visits_changed n task (min budget (n - first)) first d a.0.size (h a.0.enabled) (omega (arith, a.2))
    by (suc n) e = sym (lines_none d.rank.lines d.memory)
call_changed d (renew k w) h = refl
call_changed d (fault l k q) h = refl

-- two ways to count that agree at each call add up to the same
along_same : (f g : Counting) → ((d : Device) (c : Call) → BytesIfEnabled d → f d c ≡ g d c) → (cs : List Call) (d : Device) → Every Typed cs → BytesIfEnabled d
    → sum_along f d cs ≡ sum_along g d cs
along_same f g same [] d t h = refl
along_same f g same (c ∷ cs) d t h =
    ap₂ (λ (x y : ℕ). x + y) (same d c h) (along_same f g same cs (device_call d c).now t.1 (call_bytes d c t.0 h))

-- every list of calls, with no premise on damage: the eight totals count the chips whose nine bytes are others after a read or patrol
pub totals_changed : TotalsChanged
unfolding all_rewritten rewritten_for for_task
totals_changed m cws cs t =
    let a = totals_counted m cws cs in
    record {
      eight = a.eight;
      each = λ k l. a.each k l ∙ ap (λ (n : ℕ). min n total_limit) (for_same k);
      sum = λ below_limit. a.sum below_limit ∙ all_same;
      others = λ k l below_limit. a.others k l below_limit ∙ for_same k;
      most = omega (arith, a.most, all_same);
    }
  where
    all_same : all_rewritten m cws cs rewrites ≡ all_rewritten m cws cs changed_by
    all_same = along_same rewrites changed_by call_changed cs (booted_device m cws) t (boot_bytes m cws)

    for_same : (k : ℕ) → rewritten_for m cws cs rewrites k ≡ rewritten_for m cws cs changed_by k
    for_same k =
        along_same (for_task k rewrites) (for_task k changed_by) (λ d c h. ap (λ (n : ℕ). cond (names k c) n 0) (call_changed d c h)) cs
        (booted_device m cws) t (boot_bytes m cws)
