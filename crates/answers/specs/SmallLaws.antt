-- Laws of how large the numbers are that are printed: a refusal has at most two decimal digits, the passes three and a mask three hexadecimal
-- digits, so that `decimal_text` and `hex_text` print them whole. The first word has sixteen, as a number of 64 bits.
-- Assumes nothing.
use Rattle.std.specs.Prelude.{◌≡◌, Bool, true, false, List, [], ◌∷◌, ◌++◌, ℕ, zero, suc, ◌<◌}
use Rattle.std.proofs.Common.{arith, lit<}
use Rattle.code.specs.Lists.{Every}
use Rattle.cells.specs.Chips.{mask}
use Rattle.cells.specs.ChipLaws.{mask_lt}
use Rattle.passes.specs.Passes.{is_flagged, is_collision}
use Rattle.line.specs.Visit.{report_of, refusal_of}
use Rattle.line.specs.declared.Outcome.{Outcome}
use Rattle.line.specs.declared.Outcome.TheVariants.{Answered, Unlocated, Uncorrectable}
use Rattle.refusals.specs.Refusals.{line_out, buffer_out, chip_out, pattern_out, not_ready, memory_differs, register_differs, task_out, refused_if, first_of, state_refusals, write_refusal, read_tests, fault_refusal}
use Rattle.memory.specs.Lines.{line_at}
use Rattle.rows.specs.Rows.{report_in}
use Rattle.rows.proofs.RowLaws.{passes_most}
use Rattle.visits.specs.Visits.{visit_of, result_of, read_by}
use Rattle.rank.specs.Calls.{write_by, write_of, read_of, fault_by, fault_of}
use Rattle.record.specs.declared.Rank.{Rank}
use Rattle.rank.specs.declared.Called.{Called}
use Rattle.visits.specs.declared.ReadResult.{ReadResult}

-- ---- refusals

first_lt : (ns : List ℕ) → Every (λ k. k < 100) ns → first_of ns < 100
first_lt [] h = lit< tt
first_lt (zero ∷ ns) h = first_lt ns h.1
first_lt (suc k ∷ ns) h = h.0

if_lt : (b : Bool) (k : ℕ) → k < 100 → refused_if b k < 100
if_lt true k h = h
if_lt false k h = lit< tt

state_lt : (r : Rank) (m ns : List ℕ) → Every (λ k. k < 100) ns → first_of (state_refusals r m ++ ns) < 100
state_lt r m ns h =
    first_lt (state_refusals r m ++ ns)
    (if_lt (not_ready r) 12 (lit< tt), (if_lt (memory_differs r m) 13 (lit< tt), (if_lt (register_differs r) 14 (lit< tt), h)))

write_lt : (r : Rank) (m : List ℕ) (l : ℕ) (b : List ℕ) → write_refusal r m l b < 100
unfolding write_refusal
write_lt r m l b =
    state_lt r m (refused_if (line_out r l) 1 ∷ refused_if (buffer_out b) 2 ∷ [])
    (if_lt (line_out r l) 1 (lit< tt), (if_lt (buffer_out b) 2 (lit< tt), tt))

read_lt : (r : Rank) (m : List ℕ) (task l : ℕ) (b : List ℕ) → read_tests r m task l b < 100
unfolding read_tests
read_lt r m task l b =
    state_lt r m (refused_if (task_out task) 31 ∷ refused_if (line_out r l) 1 ∷ refused_if (buffer_out b) 2 ∷ [])
    (if_lt (task_out task) 31 (lit< tt), (if_lt (line_out r l) 1 (lit< tt), (if_lt (buffer_out b) 2 (lit< tt), tt)))

fault_lt : (r : Rank) (m : List ℕ) (l k : ℕ) (p : List ℕ) → fault_refusal r m l k p < 100
unfolding fault_refusal
fault_lt r m l k p =
    state_lt r m (refused_if (line_out r l) 1 ∷ refused_if (chip_out k) 3 ∷ refused_if (pattern_out p) 4 ∷ [])
    (if_lt (line_out r l) 1 (lit< tt), (if_lt (chip_out k) 3 (lit< tt), (if_lt (pattern_out p) 4 (lit< tt), tt)))

write_by_lem : (n : ℕ) (r : Rank) (m : List ℕ) (l : ℕ) (b : List ℕ) → n < 100 → (write_by n r m l b).result.refusal < 100
unfolding write_by
write_by_lem zero r m l b h = h
write_by_lem (suc n) r m l b h = h

pub write_small : (r : Rank) (m : List ℕ) (l : ℕ) (b : List ℕ) {c : Called} → c ≡ (write_of r m l b).result → c.refusal < 100
unfolding write_of
write_small r m l b e = rw e (write_by_lem (write_refusal r m l b) r m l b (write_lt r m l b))

fault_by_lem : (n : ℕ) (r : Rank) (m : List ℕ) (l k : ℕ) (p : List ℕ) → n < 100 → (fault_by n r m l k p).result.refusal < 100
unfolding fault_by
fault_by_lem zero r m l k p h = h
fault_by_lem (suc n) r m l k p h = h

pub fault_small : (r : Rank) (m : List ℕ) (l k : ℕ) (p : List ℕ) {c : Called} → c ≡ (fault_of r m l k p).result → c.refusal < 100
unfolding fault_of
fault_small r m l k p e = rw e (fault_by_lem (fault_refusal r m l k p) r m l k p (fault_lt r m l k p))

-- ---- what a read reports

pub record Small (v : ReadResult) : Type 0 where
  pub refusal : v.refusal < 100
  pub passes : v.passes < 1000
  pub flagged : v.flagged < 4096
  pub collisions : v.collisions < 4096

outcome_lt : (o : Outcome) → refusal_of o < 100
unfolding refusal_of
outcome_lt Answered = lit< tt
outcome_lt Unlocated = lit< tt
outcome_lt Uncorrectable = lit< tt

three_digits : (p : ℕ → Bool) → mask p 9 < 4096
three_digits p = let h = mask_lt p 9 in omega arith

read_by_lem : (n : ℕ) (r : Rank) (m : List ℕ) (task l : ℕ) (b : List ℕ) → n < 100 → Small (read_by n r m task l b).result
unfolding read_by result_of visit_of report_in report_of
read_by_lem zero r m task l b h =
    record {
      refusal = outcome_lt (report_in r.lines m l r.catch_words).outcome;
      passes = omega (arith, passes_most r.lines m l r.catch_words);
      flagged = three_digits (is_flagged (line_at m l) r.catch_words);
      collisions = three_digits (is_collision (line_at m l) r.catch_words);
    }
read_by_lem (suc n) r m task l b h = record { refusal = h; passes = lit< tt; flagged = lit< tt; collisions = lit< tt }

pub read_small : (r : Rank) (m : List ℕ) (task l : ℕ) (b : List ℕ) {v : ReadResult} → v ≡ (read_of r m task l b).result → Small v
unfolding read_of
read_small r m task l b e = rw e (read_by_lem (read_tests r m task l b) r m task l b (read_lt r m task l b))
