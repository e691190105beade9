-- Document 01, "The calls": for each call its result, the record in it, and every lent byte after it, refused or not. r stands for the
-- record, m for the lent memory, l for a line's and k for a chip's number. A refusal changes no lent byte and returns the record given; a
-- refused boot returns one with every field zero. Document 02, Req 01: a call that visits lines names one task for all its visits.
-- Definitions alone.
use Rattle.std.specs.Prelude.{ℕ, zero, suc, ◌-◌, ◌/◌, min, List, length, replicate}
use Rattle.cells.specs.Cells.{line_bytes, line_word, stored}
use Rattle.record.specs.declared.Rank.{Rank}
use Rattle.rank.specs.declared.Called.{Called}
use Rattle.rank.specs.declared.PatrolResult.{PatrolResult}
use Rattle.visits.specs.Runs.{outs, end}
use Rattle.code.specs.Lists.{up_from}
use Rattle.memory.specs.Lines.{line_at, with_line, faulted}
use Rattle.record.specs.Record.{fresh, booted, renewed}
use Rattle.refusals.specs.Refusals.{boot_refusal, write_refusal, read_tests, patrol_refusal, renew_refusal, fault_refusal}
use Rattle.visits.specs.Visits.{Device, device, LeavesRead, visit_of, read_by, refused_in, rewritten_in}

-- what a call leaves: its result and the lent memory
pub record Leaves (A : Type 0) : Type 0 where
  pub result : A
  pub memory : List ℕ

-- ---- boot: clears the memory, sets N and Enable, puts the catch-words in both copies, each total 0

unfoldable pub boot_by : ℕ → List ℕ → List ℕ → Leaves Called
boot_by zero m cws = record { result = record { refusal = 0; rank = booted (length m / line_bytes) cws }; memory = replicate (length m) 0 }
boot_by (suc n) m cws = record { result = record { refusal = suc n; rank = fresh }; memory = m }

unfoldable pub boot_of : List ℕ → List ℕ → Leaves Called
boot_of m cws = boot_by (boot_refusal m cws) m cws

-- ---- write: lays nine codewords of 64 bytes b

unfoldable pub write_by : ℕ → Rank → List ℕ → ℕ → List ℕ → Leaves Called
write_by zero r m l b = record { result = record { refusal = 0; rank = r }; memory = with_line m l (stored (line_word b)) }
write_by (suc n) r m l b = record { result = record { refusal = suc n; rank = r }; memory = m }

unfoldable pub write_of : Rank → List ℕ → ℕ → List ℕ → Leaves Called
write_of r m l b = write_by (write_refusal r m l b) r m l b

-- ---- read: a visit that puts the line in a 64-byte buffer b

unfoldable pub read_of : Rank → List ℕ → ℕ → ℕ → List ℕ → LeavesRead
read_of r m task l b = read_by (read_tests r m task l b) r m task l b

-- ---- patrol: visits min(budget, N − first) lines from a first line upwards; a refused line doesn't stop it

-- the lines that an accepted patrol visits
unfoldable pub patrolled : Rank → ℕ → ℕ → List ℕ
patrolled r first budget = up_from first (min budget (r.lines - first))

-- visits for a task to the lines ls, one by one
unfoldable pub patrol_lines : ℕ → Device → List ℕ → Leaves PatrolResult
patrol_lines task d ls =
    record {
      result = record {
        refusal = 0;
        visited = length (outs (visit_of task) d ls);
        refused = refused_in (outs (visit_of task) d ls);
        rewritten = rewritten_in (outs (visit_of task) d ls);
        rank = (end (visit_of task) d ls).rank;
      };
      memory = (end (visit_of task) d ls).memory;
    }

unfoldable pub patrol_by : ℕ → Rank → List ℕ → ℕ → ℕ → ℕ → Leaves PatrolResult
patrol_by zero r m task first budget = patrol_lines task (device r m) (patrolled r first budget)
patrol_by (suc n) r m task first budget =
    record { result = record { refusal = suc n; visited = 0; refused = 0; rewritten = 0; rank = r }; memory = m }

unfoldable pub patrol_of : Rank → List ℕ → ℕ → ℕ → ℕ → Leaves PatrolResult
patrol_of r m task first budget = patrol_by (patrol_refusal r m task first) r m task first budget

-- ---- renew: gives one chip a catch-word of any value, in both copies

unfoldable pub renew_by : ℕ → Rank → ℕ → ℕ → Called
renew_by zero r k w = record { refusal = 0; rank = renewed r k w }
renew_by (suc n) r k w = record { refusal = suc n; rank = r }

unfoldable pub renew_of : Rank → ℕ → ℕ → Called
renew_of r k w = renew_by (renew_refusal r k) r k w

-- ---- fault: xors nine bytes p, a pattern, into one chip of one line

unfoldable pub fault_by : ℕ → Rank → List ℕ → ℕ → ℕ → List ℕ → Leaves Called
fault_by zero r m l k p = record { result = record { refusal = 0; rank = r }; memory = with_line m l (faulted (line_at m l) k p) }
fault_by (suc n) r m l k p = record { result = record { refusal = suc n; rank = r }; memory = m }

unfoldable pub fault_of : Rank → List ℕ → ℕ → ℕ → List ℕ → Leaves Called
fault_of r m l k p = fault_by (fault_refusal r m l k p) r m l k p

-- ---- the version of the interface, `RANK_VERSION` in include/rank.h

abbrev pub interface_version : ℕ
interface_version = 3
