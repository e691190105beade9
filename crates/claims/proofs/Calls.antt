-- Each of the five calls, on the device and on the plain memory: the same answer, and the two stay related.
-- Assumes nothing.
use mathlib.Core.Path.{◌≡◌, refl, sym, ap, ap₂, ◌∙◌, subst}
use mathlib.Core.Bool.{Bool, true, false, cond}
use mathlib.Core.List.{List}
use Prim.Native.Nat.{ℕ, zero, suc, ◌-◌, ◌<◌, ◌≤◌, min}
use native.Mathlib.Omega.{arith}
use lib.Dec.{eqb, ltb}
use lib.ListN.{length, set, length-map}
use borrow.Author.Tests.{ltb-true, eqb-true}
use Rattle.cells.specs.Cells.{line_word, stored}
use Rattle.line.specs.Visit.{if_answered, refusal_of}
use Rattle.line.specs.declared.Report.{Report}
use Rattle.line.specs.declared.Outcome.{Outcome}
use Rattle.line.specs.declared.Outcome.TheVariants.{Answered, Uncorrectable}
use Rattle.visits.specs.Runs.{Did, outs, end}
use Rattle.code.specs.Lists.{up_from, sum_of, Every}
use Rattle.memory.specs.Lines.{line_at, faulted}
use Rattle.visits.specs.Visits.{Device, visit_of, read_by, result_of, found_line, refused_in}
use Rattle.rank.specs.Calls.{write_of, write_by, read_of, patrol_of, patrol_by, patrolled, patrol_lines, renew_of, renew_by, fault_of, fault_by}
use Rattle.record.specs.Record.{renewed}
use Rattle.claims.specs.Lists.{Call, write, read, patrol, renew, fault, Typed, Compared, refused, done, line, counts, compared_by, device_call}
use Rattle.claims.specs.Plain.{Line, Plain, undamaged, with_fault, answers, visit_by, plain_visit, unless, plain_refusal, visits, plain_accepted, plain_by, plain_call, plain_refused_by}
use Rattle.claims.specs.Premises.{Premise, AtVisits, PremiseBy}
use Rattle.claims.proofs.Lockstep.{Agree}
use Rattle.claims.proofs.Related.{Formed, Related, formed_undamaged, formed_fault, laid_undamaged, laid_fault, holds_laid}
use Rattle.claims.proofs.Visits.{report_refused, visited_outcome, visited_found, visited_related, visits_same, sum_map, below_up_from}
use Rattle.claims.proofs.Refusals.{passed, device_refusal, refusal_same}

-- a call by its refusal
unfoldable pub device_by : ℕ → Device → Call → Did Device Compared
device_by n d (write l b) =
    let x = write_by n d.rank d.memory l b in
    record { out = compared_by x.result.refusal done; now = record { rank = x.result.rank; memory = x.memory } }
device_by n d (read task l b) =
    let x = read_by n d.rank d.memory task l b in
    record { out = compared_by x.result.refusal (line x.buffer); now = record { rank = x.result.rank; memory = x.memory } }
device_by n d (patrol task first budget) =
    let x = patrol_by n d.rank d.memory task first budget in
    record {
      out = compared_by x.result.refusal (counts x.result.visited x.result.refused);
      now = record { rank = x.result.rank; memory = x.memory };
    }
device_by n d (renew k w) =
    let x = renew_by n d.rank k w in
    record { out = compared_by x.refusal done; now = record { rank = x.rank; memory = d.memory } }
device_by n d (fault l k q) =
    let x = fault_by n d.rank d.memory l k q in
    record { out = compared_by x.result.refusal done; now = record { rank = x.result.rank; memory = x.memory } }

pub device_by_lem : (d : Device) (c : Call) → device_call d c ≡ device_by (device_refusal d c) d c
unfolding device_call device_by write_of read_of patrol_of renew_of fault_of
device_by_lem d (write l b) = refl
device_by_lem d (read task l b) = refl
device_by_lem d (patrol task first budget) = refl
device_by_lem d (renew k w) = refl
device_by_lem d (fault l k q) = refl

-- a refused call leaves the device as it was
pub device_refused : (n : ℕ) (d : Device) (c : Call) → device_by (suc n) d c ≡ record { out = refused (suc n); now = d }
unfolding device_by write_by read_by patrol_by renew_by fault_by
device_refused n d (write l b) = refl
device_refused n d (read task l b) = refl
device_refused n d (patrol task first budget) = refl
device_refused n d (renew k w) = refl
device_refused n d (fault l k q) = refl

-- a patrol over the lines ls
abbrev pub device_lines : ℕ → Device → List ℕ → Did Device Compared
device_lines task d ls =
    let vs : List Report = outs (visit_of task) d ls in
    record { out = counts (length vs) (refused_in vs); now = end (visit_of task) d ls }

module _ (n : ℕ) where
  abbrev pub Alike : Did Device Compared → Did Plain Compared → Type 0
  Alike = Agree (Related n) (λ (s : Compared). s) (λ (s : Compared). s)

  -- ---- visits

  -- what is compared of a read, by its visit
  compared_read : (a : Bool) (p : Plain) (l : ℕ) (found b : List ℕ) → (a ≡ true → found ≡ (p.plain_line l).bytes)
      → compared_by (refusal_of (cond a Answered Uncorrectable)) (line (if_answered (cond a Answered Uncorrectable) found b)) ≡ (visit_by a p l).out
  unfolding refusal_of visit_by
  compared_read true p l found b e = ap line (e refl)
  compared_read false p l found b e = refl

  read_same : (d : Device) (p : Plain) (task l : ℕ) (b : List ℕ) → l < n → Related n d p → Premise p l
      → Alike (device_by zero d (read task l b)) (plain_visit p l)
  unfolding device_by read_by result_of plain_visit
  read_same d p task l b in_n r h =
      let found : List ℕ = found_line d.rank.lines d.memory l d.rank.catch_words in
      record {
        same =
            ap (λ (o : Outcome). compared_by (refusal_of o) (line (if_answered o found b))) (visited_outcome n task d p l in_n r h)
            ∙ compared_read (answers p l) p l found b (visited_found n task d p l in_n r h);
        now_related = visited_related n task d p l in_n r h;
      }

  lines_same : (task : ℕ) (d : Device) (p : Plain) (ls : List ℕ) → Every (λ l. l < n) ls → Related n d p → AtVisits p ls
      → Alike (device_lines task d ls)
      (record { out = counts (length (outs plain_visit p ls)) (sum_of plain_refused_by (outs plain_visit p ls)); now = end plain_visit p ls })
  unfolding refused_in
  lines_same task d p ls below r h =
      let w = visits_same n task ls d p below r h in
      let vs : List Report = outs (visit_of task) d ls in
      let ss : List Compared = outs plain_visit p ls in
      record {
        same =
            ap₂ counts (sym (length-map vs report_refused) ∙ ap length w.answers ∙ length-map ss plain_refused_by)
            (sum_map report_refused (λ k. k) vs ∙ ap (sum_of (λ (k : ℕ). k)) w.answers ∙ sym (sum_map plain_refused_by (λ k. k) ss));
        now_related = w.related;
      }

  -- ---- accepted calls

  accepted : (d : Device) (p : Plain) (c : Call) → Typed c → Related n d p → plain_refusal p.lines c ≡ 0
      → AtVisits p (visits p.lines c) → Alike (device_by zero d c) (plain_accepted p c)
  unfolding device_by plain_accepted write_by patrol_by patrol_lines patrolled renew_by renewed fault_by
  accepted d p (write l b) t r e h =
      let e₁ = passed (ltb l p.lines) 0 (unless (eqb (length b) 64) 2 0) e in
      let in_n : l < n = subst (λ (k : ℕ). l < k) r.holds.lines (ltb-true l p.lines e₁.0) in
      let size : length b ≡ 64 = eqb-true (length b) 64 (passed (eqb (length b) 64) 1 0 e₁.1).0 in
      record {
        same = refl;
        now_related = record {
          ready = r.ready;
          holds = holds_laid n d.memory p l in_n r.holds (stored (line_word b)) (undamaged b) (formed_undamaged b size t) (sym (laid_undamaged b));
        };
      }
  accepted d p (read task l b) t r e h =
      let e₁ = (passed (ltb task 8) 30 (unless (ltb l p.lines) 1 (unless (eqb (length b) 64) 2 0)) e).1 in
      let in_p : l < p.lines = ltb-true l p.lines (passed (ltb l p.lines) 0 (unless (eqb (length b) 64) 2 0) e₁).0 in
      read_same d p task l b (subst (λ (k : ℕ). l < k) r.holds.lines in_p) r h.0
  accepted d p (patrol task first budget) t r e h =
      let e₁ = (passed (ltb task 8) 30 (unless (ltb first p.lines) 1 0) e).1 in
      let in_p : first < p.lines = ltb-true first p.lines (passed (ltb first p.lines) 0 0 e₁).0 in
      let size : p.lines ≡ n = r.holds.lines in
      let ls : List ℕ = up_from first (min budget (p.lines - first)) in
      subst
      (λ (k : ℕ). Alike (device_lines task d (up_from first (min budget (k - first)))) (plain_accepted p (patrol task first budget)))
      (sym (r.ready.lines ∙ sym size))
      (lines_same task d p ls (below_up_from n first (min budget (p.lines - first)) (omega arith)) r h)
  accepted d p (renew k w) t r e h =
      record {
        same = refl;
        now_related = record {
          ready = record {
            lines = r.ready.lines;
            enable = r.ready.enable;
            registers = ap (λ (ws : List ℕ). set ws k w) r.ready.registers;
          };
          holds = r.holds;
        };
      }
  accepted d p (fault l k q) t r e h =
      let e₁ = passed (ltb l p.lines) 0 (unless (ltb k 9) 3 (unless (eqb (length q) 9) 4 0)) e in
      let e₂ = passed (ltb k 9) 2 (unless (eqb (length q) 9) 4 0) e₁.1 in
      let in_n : l < n = subst (λ (j : ℕ). l < j) r.holds.lines (ltb-true l p.lines e₁.0) in
      let chip : k < 9 = ltb-true k 9 e₂.0 in
      let nine : length q ≡ 9 = eqb-true (length q) 9 (passed (eqb (length q) 9) 3 0 e₂.1).0 in
      let x : Line = p.plain_line l in
      let f : Formed x = r.holds.formed l in_n in
      record {
        same = refl;
        now_related = record {
          ready = r.ready;
          holds =
              holds_laid n d.memory p l in_n r.holds (faulted (line_at d.memory l) k q) (with_fault x k q) (formed_fault x k q f nine t)
              (ap (λ (m : List ℕ). faulted m k q) (r.holds.each l in_n) ∙ laid_fault x k q f chip nine);
        };
      }

  -- ---- every call

  -- a call that is accepted or refused alike
  pub call_same : 1 ≤ n → n ≤ 65536 → (d : Device) (p : Plain) (c : Call) → Typed c → Related n d p
      → PremiseBy (plain_refusal p.lines c) p c → Alike (device_call d c) (plain_call p c)
  unfolding plain_call plain_by
  call_same low high d p c t r h =
      subst (λ (x : Did Device Compared). Alike x (plain_call p c))
      (sym (device_by_lem d c ∙ ap (λ (k : ℕ). device_by k d c) (refusal_same n low high d p r c)))
      (by (plain_refusal p.lines c) refl h)
    where
      by : (k : ℕ) → plain_refusal p.lines c ≡ k → PremiseBy k p c → Alike (device_by k d c) (plain_by k p c)
      by zero e g = accepted d p c t r e g
      by (suc k) e g =
          subst (λ (x : Did Device Compared). Alike x (plain_by (suc k) p c)) (sym (device_refused k d c)) (record { same = refl; now_related = r })
