-- The claims about tasks are not empty: totals that have not stopped and some that have, and two lists that differ in the tasks they name,
-- by computation. One line, and the device itself is run.
-- Assumes nothing.
use mathlib.Core.Path.{◌≡◌, refl, sym, ap, ◌∙◌}
use mathlib.Core.Bool.{true}
use mathlib.Core.List.{List, [], ◌∷◌}
use Prim.Native.Nat.{ℕ, ◌<◌}
use native.Mathlib.Omega.{arith}
use lib.Count.{ones, ones_in}
use lib.ListN.{get_or, replicate}
use Rattle.code.specs.Code.{is_codeword, syndrome_of, remainder, remainder_in, times_x, syndrome_at, position_from, position_of, bit_at, mended, mended_word, check_of, status_at, status_of, is_beyond}
use Rattle.cells.specs.Chips.{count, of_chips, joined, xor_all, mask, in_mask}
use Rattle.words.specs.Bytes.{number_of, bytes_of, bytes_from}
use Rattle.cells.specs.Cells.{chip_at, word_at, check_at, cell_at, codeword, with_chip}
use Rattle.passes.specs.Passes.{sends, sent_at, catch_word, pass_one, is_candidate, complement, pass_two, sent_complement, is_flagged, is_collision, flagged_chips, xor_others, pass_three, chip_status, is_flagged_beyond, beyond_chips}
use Rattle.line.specs.Blame.{reaches, other_reaches, is_blamed, blamed_chips}
use Rattle.line.specs.Visit.{must_cancel, third_finding, third_word, finding_by, own_word_by, finding_of, own_word, own_passes, outcome_by, word_by, row_passes, outcome_of, word_of, with_words, written_back, bytes_after, report_of, refusal_of}
use Rattle.visits.specs.Runs.{end}
use Rattle.code.specs.Lists.{sum_of}
use Rattle.rows.specs.Rows.{row_first, row_size, other_lines, evidence_of, report_in, word_in, bytes_in}
use Rattle.memory.specs.Lines.{line_at, with_line, faulted}
use Rattle.record.specs.Record.{total_limit, booted, moved, grown, counted, after_answer, after_visit}
use Rattle.refusals.specs.Refusals.{memory_out, catch_words_out, boot_refusal, line_out, buffer_out, chip_out, pattern_out, not_ready, memory_differs, register_differs, task_out, read_tests, patrol_refusal, fault_refusal}
use Rattle.visits.specs.Visits.{Device, visit_of, result_of, read_by}
use Rattle.rank.specs.Calls.{boot_by, boot_of, read_of, patrolled, patrol_lines, patrol_by, patrol_of, fault_by, fault_of}
use Rattle.claims.specs.Lists.{Call, read, patrol, fault, device_call}
use Rattle.claims.specs.Claim.{booted_device}
use Rattle.claims.specs.Tasks.{Counting, rewrites, changed_by, tasks, total_of, after, all_rewritten, Counted, with_task, any_task, TasksAlike}
use Rattle.claims.proofs.Decided.{bytes_hold_lem, all_typed_lem}
use Rattle.examples.proofs.Examples.{buffer, wide_pattern, narrow_pattern, catch_words}
use Rattle.claims.proofs.Tasks.{tasks_alike}
use Rattle.claims.proofs.Totals.{totals_counted}
use Rattle.claims.proofs.Changed.{totals_changed}

-- one line
abbrev memory : List ℕ
memory = replicate 81 0

-- a read that repairs one word, a patrol that repairs two, and a read that names no task of the eight
abbrev pub task_calls : List Call
task_calls = fault 0 3 wide_pattern ∷ read 1 0 buffer ∷ fault 0 2 narrow_pattern ∷ fault 0 7 narrow_pattern ∷ patrol 5 0 1 ∷ fault 0 4 wide_pattern ∷ read 8 0 buffer ∷ []

-- a record whose first total has stopped and whose second will
abbrev nearly : Device
nearly =
    record {
      rank = record {
        lines = 1;
        enable = true;
        catch_words = catch_words;
        registers = catch_words;
        repairs = 4294967295 ∷ 4294967294 ∷ 0 ∷ 0 ∷ 0 ∷ 0 ∷ 0 ∷ 0 ∷ [];
      };
      memory = memory;
    }

abbrev pub stopped_calls : List Call
stopped_calls =
    fault 0 3 wide_pattern ∷ read 0 0 buffer ∷ fault 0 2 narrow_pattern ∷ fault 0 7 narrow_pattern ∷ read 1 0 buffer ∷ fault 0 8 wide_pattern ∷ patrol 2 0 1 ∷ []

-- the totals after each list
pub totals_shown : ((after memory catch_words task_calls).rank.repairs ≡ 0 ∷ 1 ∷ 0 ∷ 0 ∷ 0 ∷ 2 ∷ 0 ∷ 0 ∷ [])
    × ((end device_call nearly stopped_calls).rank.repairs ≡ 4294967295 ∷ 4294967295 ∷ 1 ∷ 0 ∷ 0 ∷ 0 ∷ 0 ∷ 0 ∷ [])
unfolding after booted_device boot_of boot_by boot_refusal memory_out catch_words_out booted device_call read_of read_by result_of read_tests
    patrol_of patrol_by patrol_lines patrolled patrol_refusal fault_of fault_by faulted fault_refusal line_out buffer_out chip_out pattern_out
    not_ready memory_differs register_differs task_out visit_of after_visit after_answer moved grown counted line_at with_line sends sent_at catch_word
    pass_one is_candidate complement pass_two sent_complement is_flagged is_collision flagged_chips must_cancel xor_others pass_three chip_status is_flagged_beyond
    beyond_chips third_finding third_word status_of status_at is_beyond finding_by own_word_by finding_of own_word own_passes outcome_by word_by row_passes outcome_of word_of report_in word_in bytes_in evidence_of other_lines row_first row_size
    is_blamed blamed_chips reaches other_reaches with_words written_back bytes_after report_of refusal_of count of_chips joined xor_all mask in_mask number_of bytes_of
    bytes_from chip_at word_at check_at cell_at codeword with_chip is_codeword syndrome_of remainder remainder_in times_x syndrome_at position_from
    position_of bit_at mended mended_word check_of ones ones_in
totals_shown = (refl, refl)

-- none has stopped, so they add to all words rewritten, by what the calls report and by the memory's bytes
pub sum_shown : (all_rewritten memory catch_words task_calls rewrites ≡ 3) × (all_rewritten memory catch_words task_calls changed_by ≡ 3)
unfolding total_of
sum_shown = (
  three rewrites (totals_counted memory catch_words task_calls),
  three changed_by (totals_changed memory catch_words task_calls (all_typed_lem task_calls refl)),
)
  where
    below_limit : (t : ℕ) → t < 8 → total_of t (after memory catch_words task_calls) < total_limit
    below_limit t l =
        let few : get_or (0 ∷ 1 ∷ 0 ∷ 0 ∷ 0 ∷ 2 ∷ 0 ∷ 0 ∷ []) t 0 < 256 = bytes_hold_lem (0 ∷ 1 ∷ 0 ∷ 0 ∷ 0 ∷ 2 ∷ 0 ∷ 0 ∷ []) refl t in
        let same : total_of t (after memory catch_words task_calls) ≡ get_or (0 ∷ 1 ∷ 0 ∷ 0 ∷ 0 ∷ 2 ∷ 0 ∷ 0 ∷ []) t 0 =
        ap (λ (rs : List ℕ). get_or rs t 0) totals_shown.0 in
        omega (arith, few, same)

    three : (words : Counting) → Counted memory catch_words task_calls words → all_rewritten memory catch_words task_calls words ≡ 3
    three words a = sym (a.sum below_limit) ∙ ap (λ (rs : List ℕ). sum_of (λ t. get_or rs t 0) tasks) totals_shown.0

-- the same calls for other tasks of the eight
abbrev pub other_calls : List Call
other_calls = fault 0 3 wide_pattern ∷ read 7 0 buffer ∷ fault 0 2 narrow_pattern ∷ fault 0 7 narrow_pattern ∷ patrol 0 0 1 ∷ fault 0 4 wide_pattern ∷ read 8 0 buffer ∷ []

pub alike_shown : TasksAlike memory catch_words task_calls other_calls
unfolding with_task any_task
alike_shown = tasks_alike memory catch_words task_calls other_calls refl
