-- What chips that tell their status change, by computation on one line of zeros; the device itself is run. Under the premise, a visit that
-- document 01's step 5 refused with 21 answers with the line written. Outside it nothing is claimed: a visit that was refused answers with
-- another line, and one that was answered is refused.
-- Assumes nothing.
use mathlib.Core.Path.{◌≡◌, refl}
use mathlib.Core.List.{List, [], ◌∷◌, ◌++◌}
use Prim.Native.Nat.{ℕ}
use native.Mathlib.Nat.{not-suc-le-zero, le_of_suc-le-suc}
use lib.Count.{ones, ones_in}
use lib.ListN.{replicate}
use Rattle.code.specs.Code.{is_codeword, syndrome_of, remainder, remainder_in, times_x, syndrome_at, position_from, position_of, bit_at, mended, mended_word, check_of, status_at, status_of, is_beyond}
use Rattle.cells.specs.Chips.{count, of_chips, joined, xor_all, mask, in_mask}
use Rattle.words.specs.Bytes.{number_of, bytes_of, bytes_from}
use Rattle.cells.specs.Cells.{chip_at, word_at, check_at, cell_at, codeword, with_chip}
use Rattle.passes.specs.Passes.{sends, sent_at, catch_word, pass_one, is_candidate, complement, pass_two, sent_complement, is_flagged, is_collision, flagged_chips, xor_others, pass_three, chip_status, is_flagged_beyond, beyond_chips}
use Rattle.line.specs.Blame.{reaches, other_reaches, is_blamed, blamed_chips}
use Rattle.line.specs.Visit.{must_cancel, third_finding, third_word, finding_by, own_word_by, finding_of, own_word, own_passes, outcome_by, word_by, row_passes, outcome_of, word_of, with_words, written_back, bytes_after, report_of, refusal_of}
use Rattle.line.specs.FormerVisit.{former_outcome_by, former_outcome}
use Rattle.line.specs.declared.Outcome.{Outcome}
use Rattle.line.specs.declared.Outcome.TheVariants.{Answered, Uncorrectable}
use Rattle.visits.specs.Runs.{outs, end}
use Rattle.rows.specs.Rows.{row_first, row_size, other_lines, evidence_of, report_in, word_in, bytes_in}
use Rattle.memory.specs.Lines.{line_at, with_line, faulted}
use Rattle.record.specs.Record.{booted, moved, grown, counted, after_answer, after_visit}
use Rattle.refusals.specs.Refusals.{memory_out, catch_words_out, boot_refusal, line_out, buffer_out, chip_out, pattern_out, not_ready, memory_differs, register_differs, task_out, read_tests, fault_refusal}
use Rattle.visits.specs.Visits.{visit_of, found_line, result_of, read_by}
use Rattle.rank.specs.Calls.{boot_by, boot_of, read_of, fault_by, fault_of}
use Rattle.claims.specs.Lists.{Call, read, fault, Compared, refused, done, line, device_call}
use Rattle.claims.specs.Plain.{plain_boot, undamaged, with_fault, damage, damaged_chips, undone, wide_beyond, plain_accepted, plain_by, plain_call, with_plain_line}
use Rattle.claims.specs.Premises.{is_diagnosed, AtCalls}
use Rattle.claims.specs.Claim.{booted_device, booted_plain}
use Rattle.claims.proofs.Decided.{calls_hold_lem}
use Rattle.examples.proofs.Examples.{buffer, wide_pattern, narrow_pattern, beyond_word, beyond_check, catch_words}

-- one line
abbrev memory : List ℕ
memory = replicate 81 0

-- what the read after two faults gives, and how document 01's step 5 ended on the same bytes
abbrev pub compared_after : List Call → List Compared
compared_after faults = outs device_call (booted_device memory catch_words) (faults ++ (read 0 0 buffer ∷ []))

abbrev pub former_after : List Call → Outcome
former_after faults = former_outcome (line_at (end device_call (booted_device memory catch_words) faults).memory 0) catch_words

-- chip 0 beyond mending, one bit of chip 1
abbrev pub one_beyond : List Call
one_beyond = fault 0 0 beyond_word ∷ fault 0 1 narrow_pattern ∷ []

-- chip 0 beyond mending by word bits 300h, and chip 1 mended to another word
abbrev pub other_line : List Call
other_line = fault 0 0 (0 ∷ 0 ∷ 0 ∷ 0 ∷ 0 ∷ 0 ∷ 3 ∷ 0 ∷ 0 ∷ []) ∷ fault 0 1 wide_pattern ∷ []

-- two chips beyond mending whose words are not damaged
abbrev pub two_beyond : List Call
two_beyond = fault 0 0 beyond_check ∷ fault 0 1 beyond_check ∷ []

-- refused with 21 before, answered with the line written now; refused with 21 before, answered with another line now; answered before,
-- refused with 21 now
pub status_shown : ((former_after one_beyond ≡ Uncorrectable) × (compared_after one_beyond ≡ done ∷ done ∷ line (replicate 64 0) ∷ []))
    × ((former_after other_line ≡ Uncorrectable)
    × (compared_after other_line ≡ done ∷ done ∷ line (replicate 7 0 ++ (1 ∷ replicate 7 0 ++ (1 ∷ replicate 48 0))) ∷ []))
    × ((former_after two_beyond ≡ Answered) × (compared_after two_beyond ≡ done ∷ done ∷ refused 21 ∷ []))
unfolding booted_device boot_of boot_by boot_refusal memory_out catch_words_out booted device_call read_of read_by result_of read_tests
    found_line fault_of fault_by faulted fault_refusal line_out buffer_out chip_out pattern_out not_ready memory_differs register_differs task_out
    visit_of after_visit after_answer moved grown counted line_at with_line sends sent_at catch_word pass_one is_candidate complement pass_two sent_complement
    is_flagged is_collision flagged_chips must_cancel xor_others pass_three chip_status is_flagged_beyond beyond_chips third_finding third_word status_of
    status_at is_beyond finding_by own_word_by finding_of own_word own_passes outcome_by word_by row_passes outcome_of word_of report_in word_in bytes_in evidence_of other_lines row_first row_size
    is_blamed blamed_chips reaches other_reaches with_words written_back bytes_after report_of refusal_of former_outcome former_outcome_by
    count of_chips joined xor_all mask in_mask number_of bytes_of bytes_from chip_at word_at check_at cell_at codeword with_chip is_codeword
    syndrome_of remainder remainder_in times_x syndrome_at position_from position_of bit_at mended mended_word check_of ones ones_in
status_shown = ((refl, refl), (refl, refl), (refl, refl))

-- the first is under the premise
pub one_inside : AtCalls (booted_plain memory) (one_beyond ++ (read 0 0 buffer ∷ []))
unfolding booted_plain plain_boot plain_call plain_by plain_accepted with_plain_line undamaged with_fault is_diagnosed damaged_chips undone wide_beyond damage count
    number_of ones ones_in is_codeword syndrome_of remainder remainder_in times_x mended_word mended bit_at position_of position_from syndrome_at status_of
    status_at is_beyond
one_inside = calls_hold_lem (one_beyond ++ (read 0 0 buffer ∷ [])) (booted_plain memory) refl

-- the others are outside: two patterns are wide
pub other_line_outside : AtCalls (booted_plain memory) (other_line ++ (read 0 0 buffer ∷ [])) → ⊥
unfolding booted_plain plain_boot plain_call plain_by plain_accepted with_plain_line undamaged with_fault damage count number_of ones ones_in
other_line_outside h = not-suc-le-zero (le_of_suc-le-suc h.1.1.0.0.line.one_wide)

pub two_outside : AtCalls (booted_plain memory) (two_beyond ++ (read 0 0 buffer ∷ [])) → ⊥
unfolding booted_plain plain_boot plain_call plain_by plain_accepted with_plain_line undamaged with_fault damage count number_of ones ones_in
two_outside h = not-suc-le-zero (le_of_suc-le-suc h.1.1.0.0.line.one_wide)
