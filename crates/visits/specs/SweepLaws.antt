-- The visits of a patrol, turn by turn.
-- Assumes nothing.
use Rattle.std.specs.Prelude.{◌≡◌, refl, Bool, true, ℕ, zero, suc, ◌+◌, ◌-◌, ◌*◌, ◌≤◌, ◌<◌}
use Rattle.std.proofs.Math.Path.{sym, ap, subst}
use Rattle.std.proofs.Common.{ap₂, ◌∙◌, zero-le, zero-add, arith}
use mathlib.Core.List.{List, [], ◌∷◌}
use Rattle.std.proofs.Math.Nat.{add-zero, sub-zero}
use Rattle.std.specs.Int.Count.{ones}
use Rattle.std.proofs.Math.ListN.{length, get_or}
use Rattle.cells.specs.Chips.{count, mask}
use Rattle.cells.specs.ChipLaws.{bit_lt, ones_mask}
use Rattle.cells.specs.MaskLaws.{no_ones}
use Rattle.passes.specs.Passes.{is_flagged}
use Rattle.passes.specs.Scan.{is_clean}
use Rattle.line.specs.Visit.{report_of, refusal_of}
use Rattle.line.specs.declared.Report.{Report}
use Rattle.line.specs.OutcomeLaws.{either_answered}
use Rattle.line.specs.declared.Outcome.{Outcome}
use Rattle.record.specs.declared.Rank.{Rank}
use Rattle.record.specs.Record.{total_limit, accepted, counted_by, after_visit}
use Rattle.record.specs.RecordLaws.{accepted_after_visit, length_after_visit, total_after_visit}
use Rattle.memory.specs.Lines.{line_at, with_line}
use Rattle.memory.specs.LineLaws.{length_with_line}
use Rattle.rows.specs.Rows.{report_in, bytes_in}
use Rattle.visits.specs.declared.sweep.Tally.{Tally}
use Rattle.visits.specs.Runs.{Did, outs, end}
use Rattle.code.specs.Lists.{up_from}
use Rattle.visits.specs.Visits.{Device, device, visit_of, words_after, refused_by, rewritten_by, refused_in, rewritten_in}
use Rattle.visits.specs.VisitLaws.{clean, clean_visit}

-- of n lines from l on, i are done: the next one, and those after it
next_line : (l n i : ℕ) → i < n → up_from (l + i) (n - i) ≡ (l + i) ∷ up_from (l + (i + 1)) (n - (i + 1))
next_line l n i h =
    let a : n - i ≡ suc (n - (i + 1)) = omega arith in
    let b : suc (l + i) ≡ l + (i + 1) = omega arith in
    ap (up_from (l + i)) a ∙ ap (λ (k : ℕ). (l + i) ∷ up_from k (n - (i + 1))) b

all_lines : (l n : ℕ) → up_from (l + 0) (n - 0) ≡ up_from l n
all_lines l n = ap₂ up_from (add-zero l) (sub-zero n)

no_lines : (l n i : ℕ) → n ≤ i → up_from (l + i) (n - i) ≡ []
no_lines l n i h =
    let a : n - i ≡ 0 = omega arith in
    ap (up_from (l + i)) a

-- ---- how much one visit can add

count_most : (p : ℕ → Bool) (n : ℕ) → count p n ≤ n
unfolding count
count_most p zero = zero-le
count_most p (suc n) = omega (arith, count_most p n, bit_lt (p n))

-- at most nine chips are flagged
flagged_most : (m cws : List ℕ) → ones (mask (is_flagged m cws) 9) ≤ 9
flagged_most m cws = omega (arith, ones_mask (is_flagged m cws) 9, count_most (is_flagged m cws) 9)

refused_most : (o : Outcome) → refused_by o ≤ 1
refused_most o = either_answered (λ (n : ℕ). n ≤ 1) o zero-le (omega arith)

rewritten_most : (o : Outcome) (flagged : ℕ) → rewritten_by o flagged ≤ ones flagged
rewritten_most o flagged = either_answered (λ (n : ℕ). n ≤ ones flagged) o (omega arith) zero-le

-- at most nine chips are flagged
pub visit_flags : (n : ℕ) (m : List ℕ) (l : ℕ) (cws : List ℕ) {v : Report} → v ≡ report_in n m l cws → ones v.flagged ≤ 9
unfolding report_in report_of
visit_flags n m l cws {v} e =
    let f : ones v.flagged ≡ ones (mask (is_flagged (line_at m l) cws) 9) = ap (λ (w : Report). ones w.flagged) e in
    omega (arith, f, flagged_most (line_at m l) cws)

-- ---- a visit

-- the parts of the record that a visit with report v changes, put together again
pub parts_visited : (task n l : ℕ) (cws totals s : List ℕ) {cws' totals' x : List ℕ} {v : Report} → v ≡ report_in n s l cws
    → cws' ≡ words_after (report_in n s l cws) cws → totals' ≡ counted_by (refusal_of v.outcome) task v.flagged totals → x ≡ with_line s l (bytes_in n s l cws)
    → device (accepted n cws' totals') x ≡ (visit_of task (device (accepted n cws totals) s) l).now
unfolding visit_of accepted words_after
parts_visited task n l cws totals s e e₁ e₂ e₃ =
    ap₂ device
    (ap₂ (accepted n) e₁ (e₂ ∙ ap (λ (w : Report). counted_by (refusal_of w.outcome) task w.flagged totals) e)
    ∙ accepted_after_visit task (report_in n s l cws) n cws totals) e₃

-- a visit to line l for a task takes the tally t and the memory s to u and x
pub record Moves (task : ℕ) (t : Tally) (s : List ℕ) (l : ℕ) (u : Tally) (x : List ℕ) : Type 0 where
  pub refused : u.counts.refused ≡ t.counts.refused + refused_by (visit_of task (device t.rank s) l).out.outcome
  pub rewritten : u.counts.rewritten
      ≡ t.counts.rewritten + rewritten_by (visit_of task (device t.rank s) l).out.outcome (visit_of task (device t.rank s) l).out.flagged
  pub after : device u.rank x ≡ (visit_of task (device t.rank s) l).now

-- a visit to a clean line is left out: there is nothing to count
pub moves_clean : {task : ℕ} {t u : Tally} {s x : List ℕ} {l : ℕ} → length (line_at s l) ≡ 81
    → is_clean (line_at s l) t.rank.catch_words ≡ true → length t.rank.catch_words ≡ 9 → length t.rank.registers ≡ 9
    → get_or t.rank.repairs task 0 ≤ total_limit → u ≡ t → x ≡ s → Moves task t s l u x
moves_clean {task} {t} {u} {s} {x} {l} size h words registers total same kept =
    let e : visit_of task (device t.rank s) l ≡ record { out = clean; now = device t.rank s } =
    clean_visit task t.rank s l size h words registers total in
    record {
      refused =
          ap (λ (y : Tally). y.counts.refused) same
          ∙ sym (ap (λ (v : Did Device Report). t.counts.refused + refused_by v.out.outcome) e ∙ add-zero t.counts.refused);
      rewritten =
          ap (λ (y : Tally). y.counts.rewritten) same
          ∙ sym (ap (λ (v : Did Device Report). t.counts.rewritten + rewritten_by v.out.outcome v.out.flagged) e
          ∙ ap (λ (n : ℕ). t.counts.rewritten + n) no_ones
          ∙ add-zero t.counts.rewritten);
      after = ap₂ (λ (y : Tally) (z : List ℕ). device y.rank z) same kept ∙ sym (ap (λ (v : Did Device Report). v.now) e);
    }

-- ---- the loop

-- i of n visits from line l on are made: what is counted, and what the visits that are left give, make the whole
pub record Swept (task : ℕ) (r : Rank) (m : List ℕ) (l n : ℕ) (t : Tally) (s : List ℕ) (i : ℕ) : Type 0 where
  pub within : i ≤ n
  pub size : length s ≡ length m
  pub words : length t.rank.catch_words ≡ 9
  pub total : (j : ℕ) → get_or t.rank.repairs j 0 ≤ total_limit
  pub few_refused : t.counts.refused ≤ i
  pub few_rewritten : t.counts.rewritten ≤ 9 * i
  pub refused : t.counts.refused + refused_in (outs (visit_of task) (device t.rank s) (up_from (l + i) (n - i))) ≡ refused_in
      (outs (visit_of task) (device r m) (up_from l n))
  pub rewritten : t.counts.rewritten + rewritten_in (outs (visit_of task) (device t.rank s) (up_from (l + i) (n - i))) ≡ rewritten_in
      (outs (visit_of task) (device r m) (up_from l n))
  pub ends : end (visit_of task) (device t.rank s) (up_from (l + i) (n - i)) ≡ end (visit_of task) (device r m) (up_from l n)

pub swept_none : (task : ℕ) (r : Rank) (m : List ℕ) (l n : ℕ) → length r.catch_words ≡ 9 → ((j : ℕ) → get_or r.repairs j 0 ≤ total_limit)
    → Swept task r m l n (record { counts = record { refused = 0; rewritten = 0 }; rank = r }) m 0
swept_none task r m l n words total =
    let e : up_from (l + 0) (n - 0) ≡ up_from l n = all_lines l n in
    record {
      within = zero-le;
      size = refl;
      words = words;
      total = total;
      few_refused = zero-le;
      few_rewritten = zero-le;
      refused = zero-add _ ∙ ap (λ (ls : List ℕ). refused_in (outs (visit_of task) (device r m) ls)) e;
      rewritten = zero-add _ ∙ ap (λ (ls : List ℕ). rewritten_in (outs (visit_of task) (device r m) ls)) e;
      ends = ap (end (visit_of task) (device r m)) e;
    }

module _ {task : ℕ} {r : Rank} {m : List ℕ} {l n : ℕ} {t u : Tally} {s x : List ℕ} {i : ℕ}
    (h : Swept task r m l n t s i) (below : i < n) (moves : Moves task t s (l + i) u x) where
  abbrev rest : List ℕ
  rest = up_from (l + (i + 1)) (n - (i + 1))

  next : up_from (l + i) (n - i) ≡ (l + i) ∷ rest
  next = next_line l n i below

  now_rank : u.rank ≡ after_visit task (report_in t.rank.lines s (l + i) t.rank.catch_words) t.rank
  unfolding visit_of
  now_rank = ap (λ (d : Device). d.rank) moves.after

  now_size : length x ≡ length s
  unfolding visit_of
  now_size =
      ap (λ (d : Device). length d.memory) moves.after
      ∙ length_with_line s (l + i) (bytes_in t.rank.lines s (l + i) t.rank.catch_words)

  few : rewritten_by (visit_of task (device t.rank s) (l + i)).out.outcome (visit_of task (device t.rank s) (l + i)).out.flagged ≤ 9
  unfolding visit_of
  few =
      let v : Report = report_in t.rank.lines s (l + i) t.rank.catch_words in
      omega (arith, rewritten_most v.outcome v.flagged, visit_flags t.rank.lines s (l + i) t.rank.catch_words {v = v} refl)

  pub swept_more : Swept task r m l n u x (i + 1)
  unfolding refused_in rewritten_in
  swept_more =
      let d : Device = device t.rank s in
      let vs : Device → List Report = λ e. outs (visit_of task) e rest in
      let c : refused_by (visit_of task d (l + i)).out.outcome + refused_in (vs (device u.rank x)) ≡ refused_in
      (outs (visit_of task) d (up_from (l + i) (n - i))) =
      ap (λ (e : Device). refused_by (visit_of task d (l + i)).out.outcome + refused_in (vs e)) moves.after
      ∙ ap (λ (ls : List ℕ). refused_in (outs (visit_of task) d ls)) (sym next) in
      let b : rewritten_by (visit_of task d (l + i)).out.outcome (visit_of task d (l + i)).out.flagged
      + rewritten_in (vs (device u.rank x)) ≡ rewritten_in (outs (visit_of task) d (up_from (l + i) (n - i))) =
      ap (λ (e : Device). rewritten_by (visit_of task d (l + i)).out.outcome (visit_of task d (l + i)).out.flagged + rewritten_in (vs e))
      moves.after
      ∙ ap (λ (ls : List ℕ). rewritten_in (outs (visit_of task) d ls)) (sym next) in
      record {
        within = omega arith;
        size = now_size ∙ h.size;
        words = ap (λ (y : Rank). length y.catch_words) now_rank ∙ length_after_visit task _ t.rank h.words;
        total = subst (λ (y : Rank). (j : ℕ) → get_or y.repairs j 0 ≤ total_limit) (sym now_rank) (total_after_visit task _ t.rank h.total);
        few_refused = omega (arith, moves.refused, refused_most (visit_of task d (l + i)).out.outcome, h.few_refused);
        few_rewritten = omega (arith, moves.rewritten, few, h.few_rewritten);
        refused = omega (arith, moves.refused, c, h.refused);
        rewritten = omega (arith, moves.rewritten, b, h.rewritten);
        ends =
            ap (λ (y : Device). end (visit_of task) y rest) moves.after
            ∙ ap (end (visit_of task) d) (sym next)
            ∙ h.ends;
      }

module _ {task : ℕ} {r : Rank} {m : List ℕ} {l n : ℕ} {t : Tally} {s : List ℕ} {i : ℕ} (h : Swept task r m l n t s i) (over : n ≤ i) where
  none : up_from (l + i) (n - i) ≡ []
  none = no_lines l n i over

  pub all_refused : t.counts.refused ≡ refused_in (outs (visit_of task) (device r m) (up_from l n))
  unfolding refused_in
  all_refused =
      sym (ap (λ (ls : List ℕ). t.counts.refused + refused_in (outs (visit_of task) (device t.rank s) ls)) none ∙ add-zero t.counts.refused)
      ∙ h.refused

  pub all_rewritten_lem : t.counts.rewritten ≡ rewritten_in (outs (visit_of task) (device r m) (up_from l n))
  unfolding rewritten_in
  all_rewritten_lem =
      sym (ap (λ (ls : List ℕ). t.counts.rewritten + rewritten_in (outs (visit_of task) (device t.rank s) ls)) none ∙ add-zero t.counts.rewritten)
      ∙ h.rewritten

  pub all_ended : device t.rank s ≡ end (visit_of task) (device r m) (up_from l n)
  all_ended = sym (ap (end (visit_of task) (device t.rank s)) none) ∙ h.ends
