-- Document 01, "The calls": a visit in the lent memory and with the record, a read's and a patrol's; document 02, Req 01: for a task. r
-- stands for the record, m for the memory, n for how many lines it has and l for a line's number.
-- Definitions alone; what holds of them is in `VisitLaws`, `ReadLaws` and `SweepLaws`.
use Rattle.std.specs.Prelude.{ℕ, zero, suc, List}
use Rattle.std.specs.Int.Count.{ones}
use Rattle.cells.specs.Chips.{joined}
use Rattle.words.specs.Bytes.{bytes_of}
use Rattle.line.specs.Visit.{if_answered, refusal_of}
use Rattle.line.specs.declared.Report.{Report}
use Rattle.line.specs.declared.Outcome.{Outcome}
use Rattle.record.specs.declared.Rank.{Rank}
use Rattle.visits.specs.declared.ReadResult.{ReadResult}
use Rattle.visits.specs.declared.read.Visited.{Visited}
use Rattle.visits.specs.Runs.{Did}
use Rattle.code.specs.Lists.{sum_of}
use Rattle.memory.specs.Lines.{with_line}
use Rattle.rows.specs.Rows.{report_in, word_in, bytes_in}
use Rattle.record.specs.Record.{moved_by, after_visit}

-- the record and the lent memory
pub record Device : Type 0 where
  pub rank : Rank
  pub memory : List ℕ

abbrev pub device : Rank → List ℕ → Device
device r m = record { rank = r; memory = m }

-- what a read leaves: the buffer too
pub record LeavesRead : Type 0 where
  pub result : ReadResult
  pub memory : List ℕ
  pub buffer : List ℕ

-- ---- a visit, in the memory and with the record

-- line l visited for a task: what is reported, the record by step 6, and the memory with the line's bytes after it. In pass one the
-- registers equal the catch-words: test 14 stands before every visit, and step 6 moves both alike.
unfoldable pub visit_of : ℕ → Device → ℕ → Did Device Report
visit_of task d l =
    record {
      out = report_in d.rank.lines d.memory l d.rank.catch_words;
      now = record {
        rank = after_visit task (report_in d.rank.lines d.memory l d.rank.catch_words) d.rank;
        memory = with_line d.memory l (bytes_in d.rank.lines d.memory l d.rank.catch_words);
      };
    }

-- the catch-words after a visit that reports v
unfoldable pub words_after : Report → List ℕ → List ℕ
words_after v cws = moved_by (refusal_of v.outcome) v.collisions cws

-- a report with the number of its outcome
unfoldable pub visited_of : Report → Visited
visited_of v = record { refusal = refusal_of v.outcome; passes = v.passes; flagged = v.flagged; collisions = v.collisions }

-- what a visit gives: the number of its outcome; passes and masks are those reached, with 20 and 21 too; and the record
unfoldable pub result_of : Did Device Report → ReadResult
result_of v =
    record {
      refusal = refusal_of v.out.outcome;
      passes = v.out.passes;
      flagged = v.out.flagged;
      collisions = v.out.collisions;
      rank = v.now.rank;
    }

-- ---- read: a visit that puts the line in a 64-byte buffer b

-- the line's 64 bytes: the words of chips 0 to 7 that the visit found, eight bytes each
unfoldable pub found_line : ℕ → List ℕ → ℕ → List ℕ → List ℕ
found_line n m l cws = joined (λ k. bytes_of 8 (word_in n m l cws k)) 8

unfoldable pub read_by : ℕ → Rank → List ℕ → ℕ → ℕ → List ℕ → LeavesRead
read_by zero r m task l b =
    let v : Did Device Report = visit_of task (device r m) l in
    let found : List ℕ = found_line r.lines m l r.catch_words in
    record { result = result_of v; memory = v.now.memory; buffer = if_answered v.out.outcome found b }
read_by (suc n) r m task l b =
    record { result = record { refusal = suc n; passes = 0; flagged = 0; collisions = 0; rank = r }; memory = m; buffer = b }

-- ---- patrol: what it counts of its visits

-- 1 for a refused visit
abbrev pub refused_by : Outcome → ℕ
refused_by o = if_answered o 0 1

-- the words rewritten: each flagged chip's, if the line was answered
abbrev pub rewritten_by : Outcome → ℕ → ℕ
rewritten_by o flagged = if_answered o (ones flagged) 0

unfoldable pub refused_in : List Report → ℕ
refused_in vs = sum_of (λ v. refused_by v.outcome) vs

unfoldable pub rewritten_in : List Report → ℕ
rewritten_in vs = sum_of (λ v. rewritten_by v.outcome v.flagged) vs
