-- Catch-words don't matter: two devices with the same memory, whose records are equal but for their catch-words and each with its copies
-- equal, give the same answers to every list of calls and have the same memory after it.
-- Assumes nothing.
use mathlib.Core.Path.{◌≡◌, refl, sym, ap, ap₂, ◌∙◌, subst}
use mathlib.Core.List.{List}
use Prim.Native.Nat.{ℕ}
use native.Mathlib.Omega.{arith}
use lib.ListN.{set}
use Rattle.words.specs.Bytes.{bytes_of}
use Rattle.cells.specs.ChipLaws.{joined_ext}
use Rattle.line.specs.Visit.{refusal_of}
use Rattle.line.specs.declared.Report.{Report}
use Rattle.line.specs.declared.Outcome.{Outcome}
use Rattle.record.specs.declared.Rank.{Rank}
use Rattle.record.specs.Record.{moved_by, counted_by, after_visit, renewed}
use Rattle.record.specs.RecordLaws.{after_visit_parts}
use Rattle.memory.specs.Lines.{with_line}
use Rattle.rows.specs.Rows.{report_in, bytes_in}
use Rattle.rows.proofs.RowLaws.{outcome_in_free, flagged_in_free, word_in_free, bytes_in_free}
use Rattle.visits.specs.Visits.{Device, device, visit_of, found_line}
use Rattle.claims.specs.Reports.{flagged_mask}
use Rattle.claims.specs.CatchWords.{EqualButCatchWords, CatchWordsDontMatter}
use Rattle.claims.proofs.Lockstep.{Agree}
use Rattle.claims.proofs.Refusals.{copies_equal}
use Rattle.claims.proofs.TwoRuns.{SameTests, Ended, ended, found_by, Kept, runs_unchanged}

-- two devices with the same memory, whose records are equal but for their catch-words and each with its copies equal
pub record SameButCatchWords (d e : Device) : Type 0 where
  pub ranks : EqualButCatchWords d.rank e.rank
  pub memory : d.memory ≡ e.memory

-- 14 comes in neither, and the other tests are the same
tests_alike : (d e : Device) → SameButCatchWords d e → SameTests d e
tests_alike d e t =
    record {
      lines = t.ranks.lines;
      enable = t.ranks.enable;
      differs = copies_equal d.rank t.ranks.one_copies ∙ sym (copies_equal e.rank t.ranks.other_copies);
      memory = t.memory;
    }

-- ---- a visit

-- its report, but for passes and collisions, in memories m and x of n and k lines
report_alike : (n k : ℕ) (m x : List ℕ) (l : ℕ) (c w : List ℕ) → n ≡ k → m ≡ x
    → ended flagged_mask (report_in n m l c) ≡ ended flagged_mask (report_in k x l w)
report_alike n k m x l c w lines memory =
    ap₂ (λ (o : Outcome) (flagged : ℕ). record { outcome = o; flagged = flagged; reported = flagged_mask 0 flagged 0 })
    (outcome_in_free n m l c w) (flagged_in_free n m l c w)
    ∙ ap₂ (λ (i : ℕ) (y : List ℕ). ended flagged_mask (report_in i y l w)) lines memory

-- the records after two visits that end alike
record_alike : (task : ℕ) (v w : Report) (r s : Rank) → ended flagged_mask v ≡ ended flagged_mask w → EqualButCatchWords r s
    → EqualButCatchWords (after_visit task v r) (after_visit task w s)
record_alike task v w r s same t =
    subst (λ (x : Rank). EqualButCatchWords x (after_visit task w s)) (sym (after_visit_parts task v r))
    (subst (EqualButCatchWords _) (sym (after_visit_parts task w s))
    (record {
      lines = t.lines;
      enable = t.enable;
      repairs = ap₂ (λ (x : Ended) (totals : List ℕ). counted_by (refusal_of x.outcome) task x.flagged totals) same t.repairs;
      one_copies = ap (moved_by (refusal_of v.outcome) v.collisions) t.one_copies;
      other_copies = ap (moved_by (refusal_of w.outcome) w.collisions) t.other_copies;
    }))

visit_alike : (task : ℕ) (d e : Device) (l : ℕ) → SameButCatchWords d e
    → Agree SameButCatchWords (ended flagged_mask) (ended flagged_mask) (visit_of task d l) (visit_of task e l)
unfolding visit_of
visit_alike task d e l t =
    let c : List ℕ = d.rank.catch_words in
    let w : List ℕ = e.rank.catch_words in
    let same : ended flagged_mask (visit_of task d l).out ≡ ended flagged_mask (visit_of task e l).out =
    report_alike d.rank.lines e.rank.lines d.memory e.memory l c w t.ranks.lines t.memory in
    record {
      same = same;
      now_related = record {
        ranks = record_alike task (visit_of task d l).out (visit_of task e l).out d.rank e.rank same t.ranks;
        memory =
            ap (with_line d.memory l) (bytes_in_free d.rank.lines d.memory l c w)
            ∙ ap₂ (λ (n : ℕ) (m : List ℕ). with_line m l (bytes_in n m l w)) t.ranks.lines t.memory;
      };
    }

-- the line that it finds
found_alike : (d e : Device) (l : ℕ) → SameButCatchWords d e → found_by d l ≡ found_by e l
unfolding found_line
found_alike d e l t =
    joined_ext _ _ 8
    (λ k h. ap (bytes_of 8) (word_in_free d.rank.lines d.memory l d.rank.catch_words e.rank.catch_words k (omega arith)))
    ∙ ap₂ (λ (n : ℕ) (m : List ℕ). found_line n m l e.rank.catch_words) t.ranks.lines t.memory

-- ---- lists

same_kept : Kept flagged_mask SameButCatchWords (λ task. task)
unfolding renewed
same_kept =
    record {
      tests = tests_alike;
      task_tests = λ task. refl;
      stores = λ d e m n t same. record { ranks = t.ranks; memory = same };
      renews = λ d e k w t. record {
        ranks = record {
          lines = t.ranks.lines;
          enable = t.ranks.enable;
          repairs = t.ranks.repairs;
          one_copies = ap (λ (ws : List ℕ). set ws k w) t.ranks.one_copies;
          other_copies = ap (λ (ws : List ℕ). set ws k w) t.ranks.other_copies;
        };
        memory = t.memory;
      };
      visits = visit_alike;
      finds = found_alike;
    }

pub catch_words_dont_matter : CatchWordsDontMatter
catch_words_dont_matter r s m cs equal =
    let start : SameButCatchWords (device r m) (device s m) = record { ranks = equal; memory = refl } in
    let both = runs_unchanged flagged_mask SameButCatchWords same_kept (device r m) (device s m) cs start in
    record { answers = both.answers; reports = both.reports; memory = both.related.memory; ranks = both.related.ranks }
