-- Which of the eight tasks a call names changes no answer, no byte of the memory and nothing of the record but the totals; of the plain
-- memory it changes nothing at all.
-- Assumes nothing.
use mathlib.Core.Path.{◌≡◌, refl, sym, ap, ◌∙◌}
use mathlib.Core.Bool.{Bool, true, false, not, cond}
use mathlib.Core.List.{List, map}
use Prim.Native.Nat.{ℕ, zero, suc}
use lib.Dec.{ltb}
use Rattle.line.specs.Visit.{if_answered}
use Rattle.line.specs.declared.Report.{Report}
use Rattle.line.specs.declared.Outcome.{Outcome}
use Rattle.line.specs.declared.Outcome.TheVariants.{Answered, Unlocated, Uncorrectable}
use Rattle.visits.specs.Runs.{Did, outs, end}
use Rattle.rows.specs.Rows.{report_in}
use Rattle.record.specs.Record.{after_answer, after_visit, renewed}
use Rattle.refusals.specs.Refusals.{register_differs, task_out}
use Rattle.visits.specs.Visits.{Device, visit_of}
use Rattle.claims.specs.Lists.{Call, write, read, patrol, renew, fault, Compared, device_call}
use Rattle.claims.specs.Plain.{Plain, unless, plain_refusal, plain_accepted, plain_by, plain_call}
use Rattle.claims.specs.Claim.{booted_device, booted_plain}
use Rattle.claims.specs.Reports.{device_reports, passes_and_masks}
use Rattle.claims.specs.Tasks.{with_task, any_task, SameButTasks, untotalled, AnyTaskAlike}
use Rattle.claims.proofs.Lockstep.{Agree, outs_changed, end_changed}
use Rattle.claims.proofs.TwoRuns.{SameTests, ended, found_by, Kept, RunsAlike, runs_alike}

-- two devices that differ at most in their totals
abbrev pub Same : Device → Device → Type 0
Same d e = untotalled d ≡ untotalled e

-- ---- what two such devices have in common

visit_untotalled : (task : ℕ) (d : Device) (l : ℕ) → Same (visit_of task d l).now (visit_of 0 (untotalled d) l).now
unfolding untotalled visit_of after_visit after_answer
visit_untotalled task d l = by v.outcome
  where
    v : Report
    v = report_in d.rank.lines d.memory l d.rank.catch_words

    by : (o : Outcome)
        → untotalled (record { rank = if_answered o (after_answer task v d.rank) d.rank; memory = (visit_of task d l).now.memory })
        ≡ untotalled (record { rank = if_answered o (after_answer 0 v (untotalled d).rank) (untotalled d).rank; memory = (visit_of task d l).now.memory })
    by Answered = refl
    by Unlocated = refl
    by Uncorrectable = refl

-- a visit for one task and a visit for another
visit_alike : (task other : ℕ) (d e : Device) (l : ℕ) → Same d e
    → Agree Same (ended passes_and_masks) (ended passes_and_masks) (visit_of task d l) (visit_of other e l)
unfolding untotalled visit_of
visit_alike task other d e l h =
    record {
      same = ap (λ (x : Device). ended passes_and_masks (report_in x.rank.lines x.memory l x.rank.catch_words)) h;
      now_related =
          visit_untotalled task d l ∙ ap (λ (x : Device). untotalled (visit_of 0 x l).now) h ∙ sym (visit_untotalled other e l);
    }

-- a task is one of the eight exactly where its stand-in is
any_out : (task : ℕ) → task_out task ≡ task_out (any_task task)
unfolding task_out any_task
any_out task = by (ltb task 8) refl
  where
    by : (b : Bool) → ltb task 8 ≡ b → not (ltb task 8) ≡ not (ltb (cond b 0 task) 8)
    by true e = ap not e
    by false e = refl

tests_alike : (d e : Device) → Same d e → SameTests d e
unfolding untotalled register_differs
tests_alike d e h =
    record {
      lines = ap (λ (x : Device). x.rank.lines) h;
      enable = ap (λ (x : Device). x.rank.enable) h;
      differs = ap (λ (x : Device). register_differs x.rank) h;
      memory = ap (λ (x : Device). x.memory) h;
    }

tasks_kept : Kept passes_and_masks Same any_task
unfolding untotalled renewed
tasks_kept =
    record {
      tests = tests_alike;
      task_tests = any_out;
      stores = λ d e m n h same i. record { rank = (h i).rank; memory = same i };
      renews = λ d e k w h. ap (λ (x : Device). record { rank = renewed x.rank k w; memory = x.memory }) h;
      visits = λ task. visit_alike task (any_task task);
      finds = λ d e l h. ap (λ (x : Device). found_by x l) h;
    }

-- ---- the plain memory

unless_any : (task n : ℕ) → unless (ltb task 8) 31 n ≡ unless (ltb (any_task task) 8) 31 n
unfolding any_task
unless_any task n = by (ltb task 8) refl
  where
    by : (b : Bool) → ltb task 8 ≡ b → unless (ltb task 8) 31 n ≡ unless (ltb (cond b 0 task) 8) 31 n
    by true e = ap (λ (t : Bool). unless t 31 n) e
    by false e = refl

plain_any : (p : Plain) (c : Call) → plain_call p c ≡ plain_call p (with_task any_task c)
unfolding with_task plain_call plain_by plain_accepted
plain_any p (write l b) = refl
plain_any p (read task l b) =
    ap (λ (n : ℕ). plain_by n p (read task l b)) (unless_any task _) ∙ by (plain_refusal p.lines (read (any_task task) l b))
  where
    by : (n : ℕ) → plain_by n p (read task l b) ≡ plain_by n p (read (any_task task) l b)
    by zero = refl
    by (suc n) = refl
plain_any p (patrol task first budget) =
    ap (λ (n : ℕ). plain_by n p (patrol task first budget)) (unless_any task _)
    ∙ by (plain_refusal p.lines (patrol (any_task task) first budget))
  where
    by : (n : ℕ) → plain_by n p (patrol task first budget) ≡ plain_by n p (patrol (any_task task) first budget)
    by zero = refl
    by (suc n) = refl
plain_any p (renew k w) = refl
plain_any p (fault l k q) = refl

plain_outs : (p : Plain) (cs : List Call) → outs plain_call p cs ≡ outs plain_call p (map (with_task any_task) cs)
plain_outs p cs =
    ap (λ (step : Plain → Call → Did Plain Compared). outs step p cs) (λ i q c. plain_any q c i)
    ∙ outs_changed plain_call (with_task any_task) cs p

plain_end : (p : Plain) (cs : List Call) → end plain_call p cs ≡ end plain_call p (map (with_task any_task) cs)
plain_end p cs =
    ap (λ (step : Plain → Call → Did Plain Compared). end step p cs) (λ i q c. plain_any q c i)
    ∙ end_changed plain_call (with_task any_task) cs p

-- ---- lists that differ only in which of the eight they name

-- from any device
pub device_alike : (d : Device) (cs ds : List Call) → SameButTasks cs ds → RunsAlike passes_and_masks Same d d cs ds
device_alike d cs ds h =
    record {
      answers = one.answers ∙ ap (outs device_call d) h ∙ sym other.answers;
      reports = one.reports ∙ ap (outs (device_reports passes_and_masks) d) h ∙ sym other.reports;
      related = one.related ∙ ap (λ (xs : List Call). untotalled (end device_call d xs)) h ∙ sym other.related;
    }
  where
    changed : (xs : List Call) → RunsAlike passes_and_masks Same d d xs (map (with_task any_task) xs)
    changed xs = runs_alike passes_and_masks Same any_task tasks_kept d d xs refl

    one : RunsAlike passes_and_masks Same d d cs (map (with_task any_task) cs)
    one = changed cs

    other : RunsAlike passes_and_masks Same d d ds (map (with_task any_task) ds)
    other = changed ds

-- and from a boot: the same refusals, lines, counts and reports, the same memory and, but for the totals, the same record; and so the plain
-- memory's
pub tasks_alike : AnyTaskAlike
tasks_alike m cws cs ds h =
    let x = device_alike (booted_device m cws) cs ds h in
    let p : Plain = booted_plain m in
    record {
      answers = x.answers;
      reports = x.reports;
      ends = x.related;
      plain_answers = plain_outs p cs ∙ ap (outs plain_call p) h ∙ sym (plain_outs p ds);
      plain_ends = plain_end p cs ∙ ap (end plain_call p) h ∙ sym (plain_end p ds);
    }
