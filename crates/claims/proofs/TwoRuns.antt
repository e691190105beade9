-- Two runs of the device, in which calls differ at most in the tasks that they name. Where a relation between two devices is kept as `Kept`
-- says, every list gives the same answers and reports in both and leaves them related. The five calls are gone through here, once for all
-- claims about two runs.
-- Assumes nothing.
use mathlib.Core.Path.{◌≡◌, refl, sym, ap, ap₂, ◌∙◌, subst}
use mathlib.Core.Bool.{Bool, not, ◌||◌}
use mathlib.Core.List.{List, [], ◌∷◌, map}
use Prim.Native.Nat.{ℕ, zero, suc, ◌-◌, ◌*◌, min}
use lib.Dec.{eqb, ltb}
use lib.ListN.{length, length-map}
use Rattle.cells.specs.Cells.{line_word, stored}
use Rattle.line.specs.Visit.{if_answered, refusal_of}
use Rattle.line.specs.declared.Report.{Report}
use Rattle.line.specs.declared.Outcome.{Outcome}
use Rattle.visits.specs.Runs.{Did, outs, end}
use Rattle.code.specs.Lists.{up_from, sum_of}
use Rattle.memory.specs.Lines.{line_at, with_line, faulted}
use Rattle.record.specs.Record.{is_line_count, renewed}
use Rattle.refusals.specs.Refusals.{not_ready, memory_differs, register_differs, task_out, line_out, write_refusal, read_tests, patrol_refusal, renew_refusal, fault_refusal}
use Rattle.visits.specs.Visits.{Device, device, visit_of, read_by, result_of, found_line, refused_by, rewritten_by, refused_in, rewritten_in}
use Rattle.rank.specs.Calls.{write_by, patrol_by, patrolled, patrol_lines, renew_by, fault_by, read_of, patrol_of}
use Rattle.claims.specs.Lists.{Call, write, read, patrol, renew, fault, Compared, refused, counts, line, compared_by, device_call}
use Rattle.claims.specs.Reports.{reported_by, device_reports}
use Rattle.claims.specs.Tasks.{with_task}
use Rattle.claims.proofs.Lockstep.{Agree, Whole, lockstep_free, map_same, outs_changed, end_changed}
use Rattle.claims.proofs.Visits.{sum_map}
use Rattle.claims.proofs.Refusals.{device_refusal}
use Rattle.claims.proofs.Calls.{device_by, device_by_lem, device_refused, device_lines}

-- what refusals take from a device is the same in both
pub record SameTests (d e : Device) : Type 0 where
  pub lines : d.rank.lines ≡ e.rank.lines
  pub enable : d.rank.enable ≡ e.rank.enable
  pub differs : register_differs d.rank ≡ register_differs e.rank
  pub memory : d.memory ≡ e.memory

-- the line that a visit finds
abbrev pub found_by : Device → ℕ → List ℕ
found_by d l = found_line d.rank.lines d.memory l d.rank.catch_words

-- of a visit, what is the same in both
pub record Ended : Type 0 where
  pub outcome : Outcome
  pub flagged : ℕ
  pub reported : List ℕ

-- shown is what is taken of a read's passes and masks
module _ (shown : ℕ → ℕ → ℕ → List ℕ) where
  abbrev pub ended : Report → Ended
  ended v = record { outcome = v.outcome; flagged = v.flagged; reported = shown v.passes v.flagged v.collisions }

  -- what is asked of a relation R between two devices, where change gives the task that the second call names
  pub record Kept (R : Device → Device → Type 0) (change : ℕ → ℕ) : Type 0 where
    pub tests : (d e : Device) → R d e → SameTests d e
    pub task_tests : (task : ℕ) → task_out task ≡ task_out (change task)
    pub stores : (d e : Device) (m n : List ℕ) → R d e → m ≡ n → R (device d.rank m) (device e.rank n)
    pub renews : (d e : Device) (k w : ℕ) → R d e
        → R (device (renewed d.rank k w) d.memory) (device (renewed e.rank k w) e.memory)
    pub visits : (task : ℕ) (d e : Device) (l : ℕ) → R d e → Agree R ended ended (visit_of task d l) (visit_of (change task) e l)
    pub finds : (d e : Device) (l : ℕ) → R d e → found_by d l ≡ found_by e l

  -- what then holds of two lists
  pub record RunsAlike (R : Device → Device → Type 0) (d e : Device) (cs ds : List Call) : Type 0 where
    pub answers : outs device_call d cs ≡ outs device_call e ds
    pub reports : outs (device_reports shown) d cs ≡ outs (device_reports shown) e ds
    pub related : R (end device_call d cs) (end device_call e ds)

  module _ (R : Device → Device → Type 0) (change : ℕ → ℕ) (kept : Kept R change) where
    -- ---- refusals

    module _ (d e : Device) (r : R d e) where
      same : SameTests d e
      same = kept.tests d e r

      ready : not_ready d.rank ≡ not_ready e.rank
      unfolding not_ready
      ready = ap₂ (λ (b : Bool) (n : ℕ). not b || not (is_line_count n)) same.enable same.lines

      sized : memory_differs d.rank d.memory ≡ memory_differs e.rank e.memory
      unfolding memory_differs
      sized = ap₂ (λ (m : List ℕ) (n : ℕ). not (eqb (length m) (81 * n))) same.memory same.lines

      below : (l : ℕ) → line_out d.rank l ≡ line_out e.rank l
      unfolding line_out
      below l = ap (λ (n : ℕ). not (ltb l n)) same.lines

      refusal_alike : (c : Call) → device_refusal d c ≡ device_refusal e (with_task change c)
      unfolding with_task write_refusal read_tests patrol_refusal renew_refusal fault_refusal
      refusal_alike (write l b) = rw (ready, sized, same.differs, below l)
      refusal_alike (read task l b) = rw (ready, sized, same.differs, kept.task_tests task, below l)
      refusal_alike (patrol task first budget) = rw (ready, sized, same.differs, kept.task_tests task, below first)
      refusal_alike (renew k w) = rw (ready, same.differs)
      refusal_alike (fault l k q) = rw (ready, sized, same.differs, below l)

    -- ---- visits

    module _ (task : ℕ) (ls : List ℕ) (d e : Device) (r : R d e) where
      visits_alike : Whole R ended ended (visit_of task) (visit_of (change task)) d e ls
      visits_alike = lockstep_free R ended ended (visit_of task) (visit_of (change task)) (kept.visits task) ls d e r

      abbrev one : List Report
      one = outs (visit_of task) d ls

      abbrev other : List Report
      other = outs (visit_of (change task)) e ls

      -- as many visits, and what is added up over them by how they ended
      visits_length : length one ≡ length other
      visits_length = sym (length-map one ended) ∙ ap length visits_alike.answers ∙ length-map other ended

      visits_sum : (f : Ended → ℕ) → sum_of (λ v. f (ended v)) one ≡ sum_of (λ v. f (ended v)) other
      visits_sum f = sum_map ended f one ∙ ap (sum_of f) visits_alike.answers ∙ sym (sum_map ended f other)

    -- ---- answers

    abbrev Alike : Did Device Compared → Did Device Compared → Type 0
    Alike = Agree R (λ (s : Compared). s) (λ (s : Compared). s)

    lines_alike : (task : ℕ) (ls : List ℕ) (d e : Device) → R d e → Alike (device_lines task d ls) (device_lines (change task) e ls)
    unfolding refused_in
    lines_alike task ls d e r =
        record {
          same = ap₂ counts (visits_length task ls d e r) (visits_sum task ls d e r (λ x. refused_by x.outcome));
          now_related = (visits_alike task ls d e r).related;
        }

    -- the lines that a patrol visits
    abbrev patrols : ℕ → ℕ → ℕ → List ℕ
    patrols first budget n = up_from first (min budget (n - first))

    accepted_alike : (d e : Device) (c : Call) → R d e → Alike (device_by zero d c) (device_by zero e (with_task change c))
    unfolding with_task device_by write_by read_by result_of patrol_by patrol_lines patrolled renew_by fault_by
    accepted_alike d e (write l b) r =
        record {
          same = refl;
          now_related = kept.stores d e _ _ r (ap (λ (m : List ℕ). with_line m l (stored (line_word b))) (kept.tests d e r).memory);
        }
    accepted_alike d e (read task l b) r =
        let v = kept.visits task d e l r in
        record {
          same =
              ap₂ (λ (x : Ended) (found : List ℕ). compared_by (refusal_of x.outcome) (line (if_answered x.outcome found b))) v.same
              (kept.finds d e l r);
          now_related = v.now_related;
        }
    accepted_alike d e (patrol task first budget) r =
        let ls : List ℕ = patrols first budget d.rank.lines in
        subst (λ (n : ℕ). Alike (device_lines task d ls) (device_lines (change task) e (patrols first budget n))) (kept.tests d e r).lines
        (lines_alike task ls d e r)
    accepted_alike d e (renew k w) r = record { same = refl; now_related = kept.renews d e k w r }
    accepted_alike d e (fault l k q) r =
        record {
          same = refl;
          now_related = kept.stores d e _ _ r (ap (λ (m : List ℕ). with_line m l (faulted (line_at m l) k q)) (kept.tests d e r).memory);
        }

    call_alike : (d e : Device) (c : Call) → R d e → Alike (device_call d c) (device_call e (with_task change c))
    call_alike d e c r =
        subst (λ (x : Did Device Compared). Alike x (device_call e other))
        (sym (device_by_lem d c ∙ ap (λ (n : ℕ). device_by n d c) (refusal_alike d e r c)))
        (subst (λ (x : Did Device Compared). Alike (device_by (device_refusal e other) d c) x) (sym (device_by_lem e other))
        (by (device_refusal e other)))
      where
        other : Call
        other = with_task change c

        by : (n : ℕ) → Alike (device_by n d c) (device_by n e other)
        by zero = accepted_alike d e c r
        by (suc n) =
            subst (λ (x : Did Device Compared). Alike x (device_by (suc n) e other)) (sym (device_refused n d c))
            (subst (λ (x : Did Device Compared). Alike (record { out = refused (suc n); now = d }) x) (sym (device_refused n e other))
            (record { same = refl; now_related = r }))

    -- ---- reports

    reported_alike : (d e : Device) (c : Call) → R d e → reported_by shown d c ≡ reported_by shown e (with_task change c)
    unfolding reported_by with_task read_of read_by result_of patrol_of patrol_by patrol_lines patrolled refused_in rewritten_in
    reported_alike d e (write l b) r = refl
    reported_alike d e (read task l b) r =
        ap (by_number d task) (refusal_alike d e r (read task l b)) ∙ by (device_refusal e (read (change task) l b))
      where
        by_number : Device → ℕ → ℕ → List ℕ
        by_number x t n =
            let q = (read_by n x.rank x.memory t l b).result in
            shown q.passes q.flagged q.collisions

        by : (n : ℕ) → by_number d task n ≡ by_number e (change task) n
        by zero = ap (λ (x : Ended). x.reported) (kept.visits task d e l r).same
        by (suc n) = refl
    reported_alike d e (patrol task first budget) r =
        ap (by_number d task) (refusal_alike d e r (patrol task first budget)) ∙ by (device_refusal e (patrol (change task) first budget))
      where
        by_number : Device → ℕ → ℕ → List ℕ
        by_number x t n =
            let q = (patrol_by n x.rank x.memory t first budget).result in
            q.visited ∷ q.refused ∷ q.rewritten ∷ []

        -- over the lines ls
        counted : Device → ℕ → List ℕ → List ℕ
        counted x t ls =
            let vs : List Report = outs (visit_of t) x ls in
            length vs ∷ refused_in vs ∷ rewritten_in vs ∷ []

        counted_alike : (ls : List ℕ) → counted d task ls ≡ counted e (change task) ls
        counted_alike ls = λ i.
            visits_length task ls d e r i
            ∷ visits_sum task ls d e r (λ x. refused_by x.outcome) i
            ∷ visits_sum task ls d e r (λ x. rewritten_by x.outcome x.flagged) i
            ∷ []

        by : (n : ℕ) → by_number d task n ≡ by_number e (change task) n
        by zero =
            counted_alike (patrols first budget d.rank.lines)
            ∙ ap (λ (n : ℕ). counted e (change task) (patrols first budget n)) (kept.tests d e r).lines
        by (suc n) = refl
    reported_alike d e (renew k w) r = refl
    reported_alike d e (fault l k q) r = refl

    reports_alike : (d e : Device) (c : Call) → R d e
        → Agree R (λ (s : List ℕ). s) (λ (s : List ℕ). s) (device_reports shown d c) (device_reports shown e (with_task change c))
    unfolding device_reports
    reports_alike d e c r = record { same = reported_alike d e c r; now_related = (call_alike d e c r).now_related }

    -- ---- lists

    pub runs_alike : (d e : Device) (cs : List Call) → R d e → RunsAlike R d e cs (map (with_task change) cs)
    runs_alike d e cs r =
        record {
          answers = sym (map_same _) ∙ whole.answers ∙ map_same _ ∙ outs_changed device_call (with_task change) cs e;
          reports = sym (map_same _) ∙ reported.answers ∙ map_same _ ∙ outs_changed (device_reports shown) (with_task change) cs e;
          related = subst (R (end device_call d cs)) (end_changed device_call (with_task change) cs e) whole.related;
        }
      where
        -- what is compared as it is, by any step of the device
        Both : (A : Type 0) → (Device → Call → Did Device A) → Type 0
        Both A step = Whole R (λ (s : A). s) (λ (s : A). s) step (λ x c. step x (with_task change c)) d e cs

        whole : Both Compared device_call
        whole = lockstep_free R _ _ device_call (λ x c. device_call x (with_task change c)) call_alike cs d e r

        reported : Both (List ℕ) (device_reports shown)
        reported = lockstep_free R _ _ (device_reports shown) (λ x c. device_reports shown x (with_task change c)) reports_alike cs d e r

-- no task is changed
same_call : (c : Call) → with_task (λ task. task) c ≡ c
unfolding with_task
same_call (write l b) = refl
same_call (read task l b) = refl
same_call (patrol task first budget) = refl
same_call (renew k w) = refl
same_call (fault l k q) = refl

pub runs_unchanged : (shown : ℕ → ℕ → ℕ → List ℕ) (R : Device → Device → Type 0) → Kept shown R (λ task. task)
    → (d e : Device) (cs : List Call) → R d e → RunsAlike shown R d e cs cs
runs_unchanged shown R kept d e cs r =
    subst (RunsAlike shown R d e cs) (ap (λ (f : Call → Call). map f cs) (λ i c. same_call c i) ∙ map_same cs)
    (runs_alike shown R (λ task. task) kept d e cs r)
