-- Document 01, "The rank" (the record), "A visit to a line", step 6 (what a visit does to it), and "The calls" (what boot and renew do);
-- document 02, Req 01 (repairs by task).
-- r stands for the record.
-- Definitions alone; what holds of them is in `RecordLaws`.
use Rattle.std.specs.Prelude.{ℕ, zero, suc, ◌+◌, ◌%◌, ◌^◌, min, Bool, true, false, cond, ◌&&◌, List, replicate, count_ones, nat_le, nat_lt, slice_index, slice_set}
use Rattle.cells.specs.Cells.{chips}
use Rattle.cells.specs.Chips.{of_chips, in_mask}
use Rattle.line.specs.declared.Report.{Report}
use Rattle.line.specs.Visit.{if_answered}
use Rattle.record.specs.declared.Rank.{Rank}

-- a rank has 1 to 65,536 lines
abbrev pub line_limit : ℕ
line_limit = 65536

abbrev pub is_line_count : ℕ → Bool
is_line_count n = nat_le 1 n && nat_le n line_limit

-- 9E3779B97F4A7C15h
abbrev pub catch_word_step : ℕ
catch_word_step = 11400714819323198485

-- eight tasks, 0 to 7, each with a repair total of its own
abbrev pub task_limit : ℕ
task_limit = 8

abbrev pub is_task : ℕ → Bool
is_task task = nat_lt task task_limit

-- a repair total stays at 4,294,967,295 once there
abbrev pub total_limit : ℕ
total_limit = 4294967295

-- its fresh value: every field zero
unfoldable pub fresh : Rank
fresh = record { lines = 0; enable = false; catch_words = replicate chips 0; registers = replicate chips 0; repairs = replicate task_limit 0 }

-- the record of an accepted boot of n lines: N and Enable set, the catch-words in both copies, each total 0
unfoldable pub booted : ℕ → List ℕ → Rank
booted n cws = record { lines = n; enable = true; catch_words = cws; registers = cws; repairs = replicate task_limit 0 }

-- the record of an accepted call, put together from N, the catch-words and the totals: Enable is set (refusal 12) and each register equals its
-- catch-word (14). Not of document 01
unfoldable pub accepted : ℕ → List ℕ → List ℕ → Rank
accepted n cws totals = record { lines = n; enable = true; catch_words = cws; registers = cws; repairs = totals }

-- a catch-word or register grows by the step, the carry out of 64 bits dropped
unfoldable pub grown : ℕ → ℕ
grown w = (w + catch_word_step) % 2 ^ 64

-- nine catch-words or registers, those of the chips in a mask grown
unfoldable pub moved : ℕ → List ℕ → List ℕ
moved collisions ws = of_chips (λ k. cond (in_mask collisions k) (grown (slice_index ws k)) (slice_index ws k)) chips

-- the totals after n more repairs for a task: only that task's moves
unfoldable pub counted : ℕ → ℕ → List ℕ → List ℕ
counted task n totals = slice_set totals task (min (slice_index totals task + n) total_limit)

-- 6. After an answered visit for a task that reports v, each colliding chip's catch-word and register grow, and the total of the task grows
-- by the flagged chips
unfoldable pub after_answer : ℕ → Report → Rank → Rank
after_answer task v r =
    record {
      lines = r.lines;
      enable = r.enable;
      catch_words = moved v.collisions r.catch_words;
      registers = moved v.collisions r.registers;
      repairs = counted task (count_ones v.flagged) r.repairs;
    }

-- apart from that growth registers and Enable, and all else, are as in pass one again, after a refusal too
unfoldable pub after_visit : ℕ → Report → Rank → Rank
after_visit task v r = if_answered v.outcome (after_answer task v r) r

-- the same of nine catch-words or registers and of the totals alone, by the number of the outcome: 0 for an answer
unfoldable pub moved_by : ℕ → ℕ → List ℕ → List ℕ
moved_by zero collisions ws = moved collisions ws
moved_by (suc n) collisions ws = ws

unfoldable pub counted_by : ℕ → ℕ → ℕ → List ℕ → List ℕ
counted_by zero task flagged totals = counted task (count_ones flagged) totals
counted_by (suc n) task flagged totals = totals

-- renew: gives one chip a catch-word of any value, in both copies
unfoldable pub renewed : Rank → ℕ → ℕ → Rank
renewed r k w =
    record {
      lines = r.lines;
      enable = r.enable;
      catch_words = slice_set r.catch_words k w;
      registers = slice_set r.registers k w;
      repairs = r.repairs;
    }
