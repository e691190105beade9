-- Document 02, Req 05, is not about equal runs: one list is run twice on a line of zeros, by computation; the device itself is run. Chips
-- collide only in the run whose catch-words are zeros, so that passes and collision masks differ; what is claimed to be the same is so
-- (`collision_same`).
-- Assumes nothing.
use mathlib.Core.Path.{◌≡◌, refl}
use mathlib.Core.Bool.{false}
use mathlib.Core.List.{List, [], ◌∷◌}
use Prim.Native.Nat.{ℕ}
use lib.Count.{ones, ones_in}
use lib.ListN.{replicate}
use Rattle.code.specs.Code.{is_codeword, syndrome_of, remainder, remainder_in, times_x, check_of}
use Rattle.cells.specs.Chips.{count, of_chips, joined, xor_all, mask, in_mask}
use Rattle.words.specs.Bytes.{number_of, bytes_of, bytes_from}
use Rattle.cells.specs.Cells.{chip_at, word_at, check_at, cell_at, codeword, with_chip}
use Rattle.passes.specs.Passes.{sends, sent_at, catch_word, pass_one, is_candidate, complement, pass_two, sent_complement, is_flagged, is_collision, flagged_chips, xor_others}
use Rattle.line.specs.Visit.{must_cancel, finding_by, own_word_by, finding_of, own_word, own_passes, outcome_by, word_by, row_passes, outcome_of, word_of, with_words, written_back, bytes_after, report_of, refusal_of}
use Rattle.visits.specs.Runs.{outs}
use Rattle.rows.specs.Rows.{report_in, bytes_in}
use Rattle.memory.specs.Lines.{line_at, with_line, faulted}
use Rattle.record.specs.declared.Rank.{Rank}
use Rattle.record.specs.Record.{booted, moved, grown, counted, after_answer, after_visit}
use Rattle.refusals.specs.Refusals.{line_out, buffer_out, chip_out, pattern_out, not_ready, memory_differs, register_differs, task_out, read_tests, patrol_refusal, renew_refusal, fault_refusal}
use Rattle.visits.specs.Visits.{device, visit_of, result_of, read_by, refused_in, rewritten_in}
use Rattle.rank.specs.Calls.{read_of, patrolled, patrol_lines, patrol_by, patrol_of, renew_by, renew_of, fault_by, fault_of}
use Rattle.claims.specs.Lists.{Call, read, patrol, renew, fault, refused, done, device_call}
use Rattle.claims.specs.Reports.{reported_by, device_reports, passes_and_masks, flagged_mask}
use Rattle.claims.specs.CatchWords.{SameInBoth}
use Rattle.claims.proofs.CatchWords.{catch_words_dont_matter}
use Rattle.examples.proofs.Examples.{buffer, wide_pattern, catch_words}

-- one line, and two records for it: each catch-word 0, and each 1111111111111111h
abbrev memory : List ℕ
memory = replicate 81 0

abbrev pub zero_words : Rank
zero_words = booted 1 (replicate 9 0)

abbrev pub eleven_words : Rank
eleven_words = booted 1 catch_words

abbrev pub collision_calls : List Call
collision_calls = fault 0 3 wide_pattern ∷ read 1 0 buffer ∷ read 1 0 buffer ∷ fault 0 4 wide_pattern ∷ patrol 1 0 1 ∷ []

-- what the calls report in each run, of a read passes, flagged mask and collision mask, and what of it is claimed to be the same. In the
-- first run chip 3 is flagged by the first read while the other eight collide, and once it is repaired, it collides itself and costs the
-- second read another pass
pub collision_shown :
    (outs (device_reports passes_and_masks) (device zero_words memory) collision_calls
    ≡ [] ∷ (2 ∷ 0x008 ∷ 0x1f7 ∷ []) ∷ (2 ∷ 0 ∷ 0x008 ∷ []) ∷ [] ∷ (1 ∷ 0 ∷ 1 ∷ []) ∷ [])
    × (outs (device_reports passes_and_masks) (device eleven_words memory) collision_calls
    ≡ [] ∷ (2 ∷ 0x008 ∷ 0 ∷ []) ∷ (1 ∷ 0 ∷ 0 ∷ []) ∷ [] ∷ (1 ∷ 0 ∷ 1 ∷ []) ∷ [])
    × (outs (device_reports flagged_mask) (device zero_words memory) collision_calls
    ≡ [] ∷ (0x008 ∷ []) ∷ (0 ∷ []) ∷ [] ∷ (1 ∷ 0 ∷ 1 ∷ []) ∷ [])
unfolding booted device_reports reported_by device_call patrol_of patrol_by patrol_lines patrolled refused_in rewritten_in patrol_refusal read_of
    read_by result_of read_tests fault_of fault_by faulted fault_refusal line_out buffer_out chip_out pattern_out not_ready memory_differs
    register_differs task_out visit_of after_visit after_answer moved grown counted line_at with_line sends sent_at catch_word pass_one is_candidate
    complement pass_two sent_complement is_flagged is_collision flagged_chips must_cancel xor_others finding_by own_word_by finding_of own_word
    own_passes outcome_by word_by row_passes outcome_of word_of report_in bytes_in with_words written_back bytes_after report_of refusal_of count of_chips
    joined xor_all mask in_mask number_of bytes_of bytes_from chip_at word_at check_at cell_at codeword with_chip is_codeword syndrome_of remainder
    remainder_in times_x check_of ones ones_in
collision_shown = (refl, refl, refl)

-- what is claimed to be the same is so in these two runs
pub collision_same : SameInBoth zero_words eleven_words memory collision_calls
unfolding booted
collision_same =
    catch_words_dont_matter zero_words eleven_words memory collision_calls
    (record { lines = refl; enable = refl; repairs = refl; one_copies = refl; other_copies = refl })

-- a record that every call refuses with 12: Enable clear and N out of range
abbrev pub unready : List ℕ → Rank
unready cws = record { lines = 65537; enable = false; catch_words = cws; registers = cws; repairs = [] }

-- nothing but equal copies is asked: the claim holds of such records too, for any catch-words, memory and list
pub unready_same : (c w m : List ℕ) (cs : List Call) → SameInBoth (unready c) (unready w) m cs
unready_same c w m cs =
    catch_words_dont_matter (unready c) (unready w) m cs
    (record { lines = refl; enable = refl; repairs = refl; one_copies = refl; other_copies = refl })

-- the second record with other registers, so that its copies are not equal
abbrev pub unequal : Rank
unequal =
    record {
      lines = eleven_words.lines;
      enable = eleven_words.enable;
      catch_words = eleven_words.catch_words;
      registers = replicate 9 0;
      repairs = eleven_words.repairs;
    }

-- without the condition that the copies of each record are equal the claim would be false: 14 comes in one of two runs
pub copies_needed : (outs device_call (device unequal memory) (renew 0 5 ∷ []) ≡ refused 14 ∷ [])
    × (outs device_call (device eleven_words memory) (renew 0 5 ∷ []) ≡ done ∷ [])
unfolding booted device_call renew_of renew_by renew_refusal chip_out not_ready register_differs count
copies_needed = (refl, refl)
