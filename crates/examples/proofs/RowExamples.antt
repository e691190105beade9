-- What row diagnosis changes outside the premise, by computation on two lines of zeros; the device itself is run. Line 0 has check 07h in chip
-- 0, which its code takes for a bad bit in the word, and one bad bit in chip 1; line 1 has one in chip 1. Chip 1 alone is hit on a tenth of
-- the other lines, and is blamed though chip 0 is the one with the wide pattern: another line is answered where 21 came before.
-- Assumes nothing.
use mathlib.Core.Path.{◌≡◌, refl, sym}
use mathlib.Core.Bool.{true≢false}
use mathlib.Core.List.{List, [], ◌∷◌, ◌++◌}
use Prim.Native.Nat.{ℕ}
use lib.Count.{ones, ones_in}
use lib.Dec.{lit<}
use lib.ListN.{replicate}
use Rattle.code.specs.Code.{is_codeword, syndrome_of, remainder, remainder_in, times_x, syndrome_at, position_from, position_of, bit_at, mended, mended_word, check_of, status_at, status_of, is_beyond}
use Rattle.cells.specs.Chips.{count, of_chips, joined, xor_all, mask, in_mask}
use Rattle.words.specs.Bytes.{number_of, bytes_of, bytes_from}
use Rattle.cells.specs.Cells.{chip_at, word_at, check_at, cell_at, codeword, with_chip}
use Rattle.passes.specs.Passes.{sends, sent_at, catch_word, pass_one, is_candidate, complement, pass_two, sent_complement, is_flagged, is_collision, flagged_chips, xor_others, pass_three, chip_status, is_flagged_beyond, beyond_chips}
use Rattle.line.specs.Blame.{reaches, other_reaches, is_blamed, blamed_chips}
use Rattle.line.specs.Visit.{must_cancel, third_finding, third_word, finding_by, own_word_by, finding_of, own_word, own_passes, outcome_by, word_by, row_passes, outcome_of, word_of, with_words, written_back, bytes_after, report_of, refusal_of}
use Rattle.line.specs.FormerVisit.{former_outcome_by, third_before_rows, outcome_before_rows_by, outcome_before_rows}
use Rattle.line.specs.declared.Outcome.TheVariants.{Uncorrectable}
use Rattle.visits.specs.Runs.{outs, end}
use Rattle.rows.specs.Rows.{row_first, row_size, other_lines, evidence_of, report_in, word_in, bytes_in}
use Rattle.memory.specs.Lines.{line_at, with_line, faulted}
use Rattle.record.specs.Record.{booted, moved, grown, counted, after_answer, after_visit}
use Rattle.refusals.specs.Refusals.{memory_out, catch_words_out, boot_refusal, line_out, buffer_out, chip_out, pattern_out, not_ready, memory_differs, register_differs, task_out, read_tests, fault_refusal}
use Rattle.visits.specs.Visits.{visit_of, found_line, result_of, read_by}
use Rattle.rank.specs.Calls.{boot_by, boot_of, read_of, fault_by, fault_of}
use Rattle.claims.specs.Lists.{Call, read, fault, done, line, device_call}
use Rattle.claims.specs.Plain.{plain_boot, undamaged, with_fault, damage, damaged_chips, undone, wide_beyond, is_other, other_count, unsound_lines, reaches_tenth, blames, plain_accepted, plain_by, plain_call, with_plain_line}
use Rattle.claims.specs.Premises.{is_diagnosed, AtCalls}
use Rattle.claims.specs.Claim.{booted_device, booted_plain}
use Rattle.examples.proofs.Examples.{buffer, wide_pattern, narrow_pattern, catch_words}

-- two lines
abbrev memory : List ℕ
memory = replicate 162 0

abbrev pub wrong_row : List Call
wrong_row = fault 0 0 wide_pattern ∷ fault 0 1 narrow_pattern ∷ fault 1 1 narrow_pattern ∷ []

-- before Req 04 this was 21. Now another line is answered, with the lowest bits of its first two words wrong
pub wrong_row_shown : (outcome_before_rows (line_at (end device_call (booted_device memory catch_words) wrong_row).memory 0) catch_words ≡ Uncorrectable)
    × (outs device_call (booted_device memory catch_words) (wrong_row ++ (read 0 0 buffer ∷ []))
    ≡ done ∷ done ∷ done ∷ line (replicate 7 0 ++ (1 ∷ replicate 7 0 ++ (1 ∷ replicate 48 0))) ∷ [])
unfolding booted_device boot_of boot_by boot_refusal memory_out catch_words_out booted device_call read_of read_by result_of read_tests
    found_line fault_of fault_by faulted fault_refusal line_out buffer_out chip_out pattern_out not_ready memory_differs register_differs task_out
    visit_of after_visit after_answer moved grown counted line_at with_line sends sent_at catch_word pass_one is_candidate complement pass_two sent_complement
    is_flagged is_collision flagged_chips must_cancel xor_others pass_three chip_status is_flagged_beyond beyond_chips third_finding third_word status_of
    status_at is_beyond finding_by own_word_by finding_of own_word own_passes outcome_by word_by row_passes outcome_of word_of report_in word_in bytes_in evidence_of other_lines row_first row_size
    is_blamed blamed_chips reaches other_reaches with_words written_back bytes_after report_of refusal_of
    count of_chips joined xor_all mask in_mask number_of bytes_of bytes_from chip_at word_at check_at cell_at codeword with_chip is_codeword
    syndrome_of remainder remainder_in times_x syndrome_at position_from position_of bit_at mended mended_word check_of ones ones_in
    former_outcome_by third_before_rows outcome_before_rows_by outcome_before_rows
wrong_row_shown = (refl, refl)

-- it is outside the premise: chip 1 is blamed, and its pattern is not wide
pub wrong_row_outside : AtCalls (booted_plain memory) (wrong_row ++ (read 0 0 buffer ∷ [])) → ⊥
unfolding booted_plain plain_boot plain_call plain_by plain_accepted with_plain_line undamaged with_fault is_diagnosed damaged_chips undone wide_beyond blames reaches_tenth
    other_count unsound_lines is_other damage count number_of ones ones_in is_codeword syndrome_of remainder remainder_in times_x mended_word mended bit_at
    position_of position_from syndrome_at status_of status_at is_beyond
wrong_row_outside h = true≢false (sym (h.1.1.1.0.0.only_wide refl 1 (lit< tt) refl))
