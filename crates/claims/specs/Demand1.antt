-- Demand 1, for each of the six calls and every input: bad input, or damage that can't be undone, is refused by its number, and then every
-- lent byte and the record are what was given; a call that no number fits is not refused. r stands for the record, m for the lent memory, l
-- for a line's and k for a chip's number.
-- Definitions alone; the theorems are in `proofs/Demand1.antt`.
use Rattle.std.specs.Prelude.{◌≡◌, ◌↔◌, ◌≢◌, Bool, false, List, [], ◌∷◌, ℕ}
use Rattle.code.specs.Lists.{Every}
use Rattle.record.specs.declared.Rank.{Rank}
use Rattle.record.specs.Record.{fresh}
use Rattle.rows.specs.Rows.{report_in}
use Rattle.refusals.specs.Refusals.{line_out, buffer_out, chip_out, pattern_out, catch_words_out, memory_out, not_ready, memory_differs, register_differs, unlocated, uncorrectable, task_out, boot_refusal, write_refusal, read_tests, read_refusal, patrol_refusal, renew_refusal, fault_refusal}
use Rattle.rank.specs.Calls.{boot_of, write_of, read_of, patrol_of, renew_of, fault_of}

-- none of some conditions holds
abbrev pub None : List Bool → Type 0
None = Every (λ (t : Bool). t ≡ false)

-- boot. In each of these: the number is that of the first condition that holds, in the order of the call's list; there is none exactly where
-- no condition holds; and what a refusal keeps.
pub record BootRefusals (m cws : List ℕ) : Type 0 where
  pub number : (boot_of m cws).result.refusal ≡ boot_refusal m cws
  pub accepts : ((boot_of m cws).result.refusal ≡ 0) ↔ None (memory_out m ∷ catch_words_out cws ∷ [])
  pub keeps : (boot_of m cws).result.refusal ≢ 0 → ((boot_of m cws).memory ≡ m) × ((boot_of m cws).result.rank ≡ fresh)

pub record WriteRefusals (r : Rank) (m : List ℕ) (l : ℕ) (b : List ℕ) : Type 0 where
  pub number : (write_of r m l b).result.refusal ≡ write_refusal r m l b
  pub accepts : ((write_of r m l b).result.refusal ≡ 0)
      ↔ None (not_ready r ∷ memory_differs r m ∷ register_differs r ∷ line_out r l ∷ buffer_out b ∷ [])
  pub keeps : (write_of r m l b).result.refusal ≢ 0 → ((write_of r m l b).memory ≡ m) × ((write_of r m l b).result.rank ≡ r)

-- read: 20 and 21 too
pub record ReadRefusals (r : Rank) (m : List ℕ) (task l : ℕ) (b : List ℕ) : Type 0 where
  pub number : (read_of r m task l b).result.refusal ≡ read_refusal r m task l b
  pub accepts : ((read_of r m task l b).result.refusal ≡ 0)
      ↔ None (not_ready r ∷ memory_differs r m ∷ register_differs r ∷ task_out task ∷ line_out r l ∷ buffer_out b
      ∷ unlocated r m l ∷ uncorrectable r m l ∷ [])
  pub keeps : (read_of r m task l b).result.refusal ≢ 0
      → ((read_of r m task l b).memory ≡ m) × ((read_of r m task l b).buffer ≡ b) × ((read_of r m task l b).result.rank ≡ r)
  -- passes and masks are zero where no visit is made
  pub zero : read_tests r m task l b ≢ 0
      → ((read_of r m task l b).result.passes ≡ 0) × ((read_of r m task l b).result.flagged ≡ 0) × ((read_of r m task l b).result.collisions ≡ 0)
  -- and else those reached, with 20 and 21 too
  pub reached : read_tests r m task l b ≡ 0
      → ((read_of r m task l b).result.passes ≡ (report_in r.lines m l r.catch_words).passes)
      × ((read_of r m task l b).result.flagged ≡ (report_in r.lines m l r.catch_words).flagged)
      × ((read_of r m task l b).result.collisions ≡ (report_in r.lines m l r.catch_words).collisions)

-- patrol: no 20 or 21 of its own
pub record PatrolRefusals (r : Rank) (m : List ℕ) (task first budget : ℕ) : Type 0 where
  pub number : (patrol_of r m task first budget).result.refusal ≡ patrol_refusal r m task first
  pub accepts : ((patrol_of r m task first budget).result.refusal ≡ 0)
      ↔ None (not_ready r ∷ memory_differs r m ∷ register_differs r ∷ task_out task ∷ line_out r first ∷ [])
  pub keeps : (patrol_of r m task first budget).result.refusal ≢ 0
      → ((patrol_of r m task first budget).memory ≡ m) × ((patrol_of r m task first budget).result.rank ≡ r)
  -- counts are zero
  pub zero : (patrol_of r m task first budget).result.refusal ≢ 0
      → ((patrol_of r m task first budget).result.visited ≡ 0) × ((patrol_of r m task first budget).result.refused ≡ 0)
      × ((patrol_of r m task first budget).result.rewritten ≡ 0)

-- renew is lent nothing
pub record RenewRefusals (r : Rank) (k w : ℕ) : Type 0 where
  pub number : (renew_of r k w).refusal ≡ renew_refusal r k
  pub accepts : ((renew_of r k w).refusal ≡ 0) ↔ None (not_ready r ∷ register_differs r ∷ chip_out k ∷ [])
  pub keeps : (renew_of r k w).refusal ≢ 0 → (renew_of r k w).rank ≡ r

pub record FaultRefusals (r : Rank) (m : List ℕ) (l k : ℕ) (p : List ℕ) : Type 0 where
  pub number : (fault_of r m l k p).result.refusal ≡ fault_refusal r m l k p
  pub accepts : ((fault_of r m l k p).result.refusal ≡ 0)
      ↔ None (not_ready r ∷ memory_differs r m ∷ register_differs r ∷ line_out r l ∷ chip_out k ∷ pattern_out p ∷ [])
  pub keeps : (fault_of r m l k p).result.refusal ≢ 0 → ((fault_of r m l k p).memory ≡ m) × ((fault_of r m l k p).result.rank ≡ r)
