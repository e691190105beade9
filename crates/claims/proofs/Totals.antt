-- The eight repair totals after any list of calls: each is the words rewritten for its task, stopped at the limit, and together they are
-- all words rewritten while none has stopped.
-- Assumes nothing.
use mathlib.Core.Path.{◌≡◌, refl, sym, ap, ap₂, ◌∙◌, subst}
use mathlib.Core.Bool.{Bool, true, false, cond}
use mathlib.Core.List.{List, [], ◌∷◌}
use Prim.Native.Nat.{ℕ, zero, suc, ◌+◌, ◌<◌, ◌≤◌, min, zero-le}
use native.Mathlib.Nat.{add-zero}
use native.Mathlib.Omega.{arith}
use lib.Count.{ones}
use lib.Dec.{eqb}
use lib.ListN.{length, get_or, replicate, get_or-replicate}
use borrow.Author.Tests.{eqb-true, eqb-false, ne_eqb}
use Rattle.line.specs.Visit.{if_answered, refusal_of}
use Rattle.line.specs.declared.Report.{Report}
use Rattle.line.specs.declared.Outcome.{Outcome}
use Rattle.line.specs.declared.Outcome.TheVariants.{Answered, Unlocated, Uncorrectable}
use Rattle.visits.specs.Runs.{outs, end}
use Rattle.code.specs.Lists.{up_from, sum_of}
use Rattle.code.specs.ListLaws.{sum_range}
use Rattle.rows.specs.Rows.{report_in}
use Rattle.record.specs.Record.{total_limit, fresh, booted, counted, after_answer, after_visit, renewed}
use Rattle.record.specs.RecordLaws.{length_counted, counted_own, counted_other}
use Rattle.refusals.specs.Refusals.{boot_refusal, write_refusal, read_tests, patrol_refusal, renew_refusal, fault_refusal}
use Rattle.refusals.specs.RefusalLaws.{read_passed, patrol_passed}
use Rattle.visits.specs.Visits.{Device, visit_of, rewritten_by, rewritten_in, result_of, read_by}
use Rattle.rank.specs.Calls.{boot_by, boot_of, write_by, write_of, read_of, patrolled, patrol_lines, patrol_by, patrol_of, renew_by, renew_of, fault_by, fault_of}
use Rattle.claims.specs.Lists.{Call, write, read, patrol, renew, fault, device_call}
use Rattle.claims.specs.Claim.{booted_device}
use Rattle.claims.specs.Tasks.{rewrites_by, rewrites, names, for_task, sum_along, tasks, total_of, after, all_rewritten, rewritten_for, TotalsCounted}

-- ---- one total

-- eight totals, and task t's is within its limit
pub record Fit (t : ℕ) (d : Device) : Type 0 where
  pub eight : length d.rank.repairs ≡ 8
  pub within : total_of t d ≤ total_limit

-- from d to e task t's total has grown by n, and stays at its limit once there
pub record Grown (t n : ℕ) (d e : Device) : Type 0 where
  pub eight : length e.rank.repairs ≡ 8
  pub total : total_of t e ≡ min (total_of t d + n) total_limit

-- the totals stay
grown_kept : (t : ℕ) (d e : Device) → Fit t d → e.rank.repairs ≡ d.rank.repairs → Grown t 0 d e
unfolding total_of
grown_kept t d e f same =
    let x : ℕ = total_of t d in
    let limit : min (x + 0) total_limit ≡ x = omega (arith, f.within) in
    record { eight = ap length same ∙ f.eight; total = ap (λ (rs : List ℕ). get_or rs t 0) same ∙ sym limit }

grown_fit : (t n : ℕ) (d e : Device) → Grown t n d e → Fit t e
grown_fit t n d e g = record { eight = g.eight; within = omega (arith, g.total) }

grown_both : (t a b : ℕ) (d e f : Device) → Grown t a d e → Grown t b e f → Grown t (a + b) d f
grown_both t a b d e f g h = record { eight = h.eight; total = omega (arith, g.total, h.total) }

-- nothing, whichever task is named
cond_none : (b : Bool) → ◌≡◌ {A = ℕ} (cond b 0 0) 0
cond_none true = refl
cond_none false = refl

cond_add : (b : Bool) (x y : ℕ) → cond b x 0 + cond b y 0 ≡ cond b (x + y) 0
cond_add true x y = refl
cond_add false x y = refl

-- ---- the words that a read rewrites

-- by the outcome of its visit
read_is : (o : Outcome) (flagged : ℕ) → rewrites_by (refusal_of o) flagged ≡ rewritten_by o flagged
unfolding refusal_of
read_is Answered flagged = refl
read_is Unlocated flagged = refl
read_is Uncorrectable flagged = refl

-- an accepted read's are those of a visit to its line
pub read_rewrites : (d : Device) (task l : ℕ) (b : List ℕ)
    → rewrites_by (read_by 0 d.rank d.memory task l b).result.refusal (read_by 0 d.rank d.memory task l b).result.flagged
    ≡ rewritten_in (outs (visit_of task) d (l ∷ []))
unfolding read_by result_of visit_of rewritten_in
read_rewrites d task l b =
    read_is (report_in d.rank.lines d.memory l d.rank.catch_words).outcome _ ∙ sym (add-zero _)

module _ (t : ℕ) (below : t < 8) (task : ℕ) where
  -- what n more repairs for the task are for task t
  abbrev part : ℕ → ℕ
  part n = cond (eqb task t) n 0

  -- ---- visits

  counted_grown : (n : ℕ) (d e : Device) → Fit t d → e.rank.repairs ≡ counted task n d.rank.repairs → Grown t (part n) d e
  unfolding total_of
  counted_grown n d e f is =
      record { eight = ap length is ∙ length_counted task n d.rank.repairs ∙ f.eight; total = by (eqb task t) refl }
    where
      rs : List ℕ
      rs = d.rank.repairs

      by : (b : Bool) → eqb task t ≡ b → get_or e.rank.repairs t 0 ≡ min (get_or rs t 0 + cond b n 0) total_limit
      by true h =
          let same : task ≡ t = eqb-true task t h in
          ap (λ (xs : List ℕ). get_or xs t 0) is ∙ ap (λ (k : ℕ). get_or (counted k n rs) t 0) same
          ∙ counted_own t n rs (omega (arith, below, f.eight))
      by false h =
          let limit : min (get_or rs t 0 + 0) total_limit ≡ get_or rs t 0 = omega (arith, f.within) in
          ap (λ (xs : List ℕ). get_or xs t 0) is ∙ counted_other task t n rs (eqb-false task t h) ∙ sym limit

  visit_grown : (d : Device) (l : ℕ) → Fit t d
      → Grown t (part (rewritten_by (visit_of task d l).out.outcome (visit_of task d l).out.flagged)) d (visit_of task d l).now
  unfolding visit_of after_visit after_answer
  visit_grown d l f = by v.outcome
    where
      v : Report
      v = report_in d.rank.lines d.memory l d.rank.catch_words

      -- a refused visit leaves the totals
      kept : Grown t (part 0) d (record { rank = d.rank; memory = (visit_of task d l).now.memory })
      kept =
          let e : Device = record { rank = d.rank; memory = (visit_of task d l).now.memory } in
          subst (λ (n : ℕ). Grown t n d e) (sym (cond_none (eqb task t))) (grown_kept t d e f refl)

      by : (o : Outcome)
          → Grown t (part (rewritten_by o v.flagged)) d
          (record { rank = if_answered o (after_answer task v d.rank) d.rank; memory = (visit_of task d l).now.memory })
      by Answered = counted_grown (ones v.flagged) d _ f refl
      by Unlocated = kept
      by Uncorrectable = kept

  visits_grown : (ls : List ℕ) (d : Device) → Fit t d → Grown t (part (rewritten_in (outs (visit_of task) d ls))) d (end (visit_of task) d ls)
  unfolding rewritten_in
  visits_grown [] d f = subst (λ (n : ℕ). Grown t n d d) (sym (cond_none (eqb task t))) (grown_kept t d d f refl)
  visits_grown (l ∷ ls) d f =
      let e : Device = (visit_of task d l).now in
      let g = visit_grown d l f in
      let h = visits_grown ls e (grown_fit t _ d e g) in
      subst (λ (n : ℕ). Grown t n d (end (visit_of task) e ls)) (cond_add (eqb task t) _ _) (grown_both t _ _ d e _ g h)

  -- ---- calls that visit

  read_grown : (n : ℕ) (d : Device) (l : ℕ) (b : List ℕ) → Fit t d
      → Grown t
      (part
      (rewrites_by (read_by n d.rank d.memory task l b).result.refusal (read_by n d.rank d.memory task l b).result.flagged))
      d
      (record { rank = (read_by n d.rank d.memory task l b).result.rank; memory = (read_by n d.rank d.memory task l b).memory })
  unfolding read_by result_of
  read_grown zero d l b f =
      subst (λ (k : ℕ). Grown t (part k) d (visit_of task d l).now) (sym (read_rewrites d task l b)) (visits_grown (l ∷ []) d f)
  read_grown (suc n) d l b f = subst (λ (k : ℕ). Grown t k d d) (sym (cond_none (eqb task t))) (grown_kept t d d f refl)

  patrol_grown : (n : ℕ) (d : Device) (first budget : ℕ) → Fit t d
      → Grown t (part (patrol_by n d.rank d.memory task first budget).result.rewritten) d
      (record {
        rank = (patrol_by n d.rank d.memory task first budget).result.rank;
        memory = (patrol_by n d.rank d.memory task first budget).memory;
      })
  unfolding patrol_by patrol_lines
  patrol_grown zero d first budget f = visits_grown (patrolled d.rank first budget) d f
  patrol_grown (suc n) d first budget f = subst (λ (k : ℕ). Grown t k d d) (sym (cond_none (eqb task t))) (grown_kept t d d f refl)

-- ---- every call, and a list of them

module _ (t : ℕ) (below : t < 8) where
  call_grown : (d : Device) (c : Call) → Fit t d → Grown t (for_task t rewrites d c) d (device_call d c).now
  unfolding for_task names rewrites device_call write_of read_of patrol_of renew_of fault_of write_by renew_by renewed fault_by
  call_grown d (write l b) f = by (write_refusal d.rank d.memory l b)
    where
      by : (n : ℕ)
          → Grown t 0 d
          (record { rank = (write_by n d.rank d.memory l b).result.rank; memory = (write_by n d.rank d.memory l b).memory })
      by zero = grown_kept t d _ f refl
      by (suc n) = grown_kept t d _ f refl
  call_grown d (read task l b) f = read_grown t below task (read_tests d.rank d.memory task l b) d l b f
  call_grown d (patrol task first budget) f = patrol_grown t below task (patrol_refusal d.rank d.memory task first) d first budget f
  call_grown d (renew k w) f = by (renew_refusal d.rank k)
    where
      by : (n : ℕ) → Grown t 0 d (record { rank = (renew_by n d.rank k w).rank; memory = d.memory })
      by zero = grown_kept t d _ f refl
      by (suc n) = grown_kept t d _ f refl
  call_grown d (fault l k q) f = by (fault_refusal d.rank d.memory l k q)
    where
      by : (n : ℕ)
          → Grown t 0 d
          (record { rank = (fault_by n d.rank d.memory l k q).result.rank; memory = (fault_by n d.rank d.memory l k q).memory })
      by zero = grown_kept t d _ f refl
      by (suc n) = grown_kept t d _ f refl

  -- from any device with eight totals: task t's grows by the words rewritten for it, whatever the others do
  pub calls_grown : (cs : List Call) (d : Device) → Fit t d → Grown t (sum_along (for_task t rewrites) d cs) d (end device_call d cs)
  calls_grown [] d f = grown_kept t d d f refl
  calls_grown (c ∷ cs) d f =
      let e : Device = (device_call d c).now in
      let g = call_grown d c f in
      grown_both t _ _ d e _ g (calls_grown cs e (grown_fit t _ d e g))

-- ---- sums

-- terms that are no more
sum_most : (f g : ℕ → ℕ) (n a : ℕ) → ((t : ℕ) → t < a + n → f t ≤ g t) → sum_of f (up_from a n) ≤ sum_of g (up_from a n)
sum_most f g zero a h = omega arith
sum_most f g (suc n) a h = omega (arith, h a (omega arith), sum_most f g n (suc a) (λ t l. h t (omega arith)))

-- the sum of sums
pub sum_add : (f g : ℕ → ℕ) (ts : List ℕ) → sum_of (λ t. f t + g t) ts ≡ sum_of f ts + sum_of g ts
sum_add f g [] = refl
sum_add f g (t ∷ ts) = omega (arith, sum_add f g ts)

-- a sum in which no term counts
sum_none : (task x n a : ℕ) → task < a → sum_of (λ t. cond (eqb task t) x 0) (up_from a n) ≡ 0
sum_none task x zero a h = refl
sum_none task x (suc n) a h =
    ap₂ (λ (b : Bool) (y : ℕ). cond b x 0 + y) (ne_eqb task a (λ e. omega arith)) (sum_none task x n (suc a) (omega arith))

-- terms that are nothing
pub sum_zero : (f : ℕ → ℕ) (ts : List ℕ) → ((t : ℕ) → f t ≡ 0) → sum_of f ts ≡ 0
sum_zero f [] h = refl
sum_zero f (t ∷ ts) h = ap₂ (λ (x y : ℕ). x + y) (h t) (sum_zero f ts h)

-- a sum in which only one term counts, the task's own
pub sum_own : (task x n a : ℕ) → a ≤ task → task < a + n → sum_of (λ t. cond (eqb task t) x 0) (up_from a n) ≡ x
sum_own task x zero a low high = absurd (omega arith)
sum_own task x (suc n) a low high = by (eqb task a) refl (λ more. sum_own task x n (suc a) more (omega (arith, high)))
  where
    rest : ℕ
    rest = sum_of (λ t. cond (eqb task t) x 0) (up_from (suc a) n)

    by : (b : Bool) → eqb task a ≡ b → (suc a ≤ task → rest ≡ x) → cond b x 0 + rest ≡ x
    by true e later = omega (arith, sum_none task x n (suc a) (omega (arith, eqb-true task a e)))
    by false e later = omega (arith, later (omega (arith, low, eqb-false task a e)))

-- ---- the words rewritten for the eight tasks are all words rewritten

-- x words rewritten for one task, added up over the eight, are x
abbrev Parted : ℕ → ℕ → Type 0
Parted task x = sum_of (λ t. cond (eqb task t) x 0) tasks ≡ x

-- of one call: a call that names none of the eight is refused and rewrites nothing
call_parts : (d : Device) (c : Call) → sum_of (λ t. for_task t rewrites d c) tasks ≡ rewrites d c
unfolding for_task names rewrites read_of read_by patrol_of patrol_by
call_parts d (write l b) = refl
call_parts d (read task l b) = by (read_tests d.rank d.memory task l b) refl
  where
    by : (n : ℕ) → read_tests d.rank d.memory task l b ≡ n
        → Parted task
        (rewrites_by (read_by n d.rank d.memory task l b).result.refusal (read_by n d.rank d.memory task l b).result.flagged)
    by zero e = sum_own task _ 8 0 zero-le (read_passed d.rank d.memory task l b e).1
    by (suc n) e = sum_zero _ tasks (λ t. cond_none (eqb task t))
call_parts d (patrol task first budget) = by (patrol_refusal d.rank d.memory task first) refl
  where
    by : (n : ℕ) → patrol_refusal d.rank d.memory task first ≡ n
        → Parted task (patrol_by n d.rank d.memory task first budget).result.rewritten
    by zero e = sum_own task _ 8 0 zero-le (patrol_passed d.rank d.memory task first e).1
    by (suc n) e = sum_zero _ tasks (λ t. cond_none (eqb task t))
call_parts d (renew k w) = refl
call_parts d (fault l k q) = refl

calls_parts : (cs : List Call) (d : Device) → sum_of (λ t. sum_along (for_task t rewrites) d cs) tasks ≡ sum_along rewrites d cs
calls_parts [] d = refl
calls_parts (c ∷ cs) d =
    sum_add (λ t. for_task t rewrites d c) (λ t. sum_along (for_task t rewrites) (device_call d c).now cs) tasks
    ∙ ap₂ (λ (x y : ℕ). x + y) (call_parts d c) (calls_parts cs (device_call d c).now)

-- ---- from a boot

boot_totals : (m cws : List ℕ) → (booted_device m cws).rank.repairs ≡ replicate 8 0
unfolding booted_device boot_of boot_by booted fresh
boot_totals m cws = by (boot_refusal m cws)
  where
    by : (n : ℕ) → (boot_by n m cws).result.rank.repairs ≡ replicate 8 0
    by zero = refl
    by (suc n) = refl

-- every list of calls, with no premise
pub totals_counted : TotalsCounted
unfolding after all_rewritten rewritten_for total_of
totals_counted m cws cs =
    record {
      eight = (grown 0 (omega arith)).eight;
      each = each;
      sum = λ below_limit. sum_range (λ t. total_of t end_device) words 0 8 (λ t _ l. exact t l (below_limit t l)) ∙ calls_parts cs d;
      others = exact;
      most = omega (arith, calls_parts cs d, sum_most (λ t. total_of t end_device) words 8 0 (λ t l. omega (arith, each t l)));
    }
  where
    d : Device
    d = booted_device m cws

    end_device : Device
    end_device = end device_call d cs

    words : ℕ → ℕ
    words t = sum_along (for_task t rewrites) d cs

    start : (t : ℕ) → t < 8 → total_of t d ≡ 0
    start t l = ap (λ (rs : List ℕ). get_or rs t 0) (boot_totals m cws) ∙ get_or-replicate 8 t 0 0 l

    grown : (t : ℕ) → t < 8 → Grown t (words t) d end_device
    grown t l =
        calls_grown t l cs d (record { eight = ap length (boot_totals m cws); within = omega (arith, start t l) })

    each : (t : ℕ) → t < 8 → total_of t end_device ≡ min (words t) total_limit
    each t l = omega (arith, (grown t l).total, start t l)

    exact : (t : ℕ) → t < 8 → total_of t end_device < total_limit → total_of t end_device ≡ words t
    exact t l below_limit = omega (arith, each t l, below_limit)
