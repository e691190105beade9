-- Document 01, "Refusals caused by the input" and "Refusals caused by the state", and document 02, Req 01, Req 02 and Req 04: each condition
-- once, then their order for each call. r stands for the record, m for the lent memory, l for a line's number and x for the line's 81 bytes.
-- Definitions alone; what holds of them is in `RefusalLaws` and `VisitRefusalLaws`.
use Rattle.std.specs.Prelude.{ℕ, zero, suc, ◌*◌, ◌/◌, ◌%◌, Bool, not, ◌&&◌, ◌||◌, cond, List, [], ◌∷◌, ◌++◌, eqb, ltb, length, get_or}
use Rattle.cells.specs.Cells.{chip_bytes, chips, data_bytes, line_bytes}
use Rattle.cells.specs.Chips.{xor_all, count}
use Rattle.passes.specs.Passes.{pass_one, pass_three, flagged_chips, beyond_chips}
use Rattle.line.specs.Blame.{Evidence, blamed_chips}
use Rattle.memory.specs.Lines.{line_at}
use Rattle.rows.specs.Rows.{evidence_of}
use Rattle.record.specs.declared.Rank.{Rank}
use Rattle.record.specs.Record.{line_limit, is_line_count, is_task}

-- the number of a condition that holds, else 0
abbrev pub refused_if : Bool → ℕ → ℕ
refused_if b number = cond b number 0

-- 1: line, or patrol's first line, not below N
unfoldable pub line_out : Rank → ℕ → Bool
line_out r l = not (ltb l r.lines)

abbrev pub refused1 : Rank → ℕ → ℕ
refused1 r l = refused_if (line_out r l) 1

-- 2: line buffer not 64 bytes
unfoldable pub buffer_out : List ℕ → Bool
buffer_out b = not (eqb (length b) data_bytes)

abbrev pub refused2 : List ℕ → ℕ
refused2 b = refused_if (buffer_out b) 2

-- 3: chip not below 9
unfoldable pub chip_out : ℕ → Bool
chip_out k = not (ltb k chips)

abbrev pub refused3 : ℕ → ℕ
refused3 k = refused_if (chip_out k) 3

-- 4: pattern not 9 bytes
unfoldable pub pattern_out : List ℕ → Bool
pattern_out p = not (eqb (length p) chip_bytes)

abbrev pub refused4 : List ℕ → ℕ
refused4 p = refused_if (pattern_out p) 4

-- 5: not nine catch-words
unfoldable pub catch_words_out : List ℕ → Bool
catch_words_out cws = not (eqb (length cws) chips)

abbrev pub refused5 : List ℕ → ℕ
refused5 cws = refused_if (catch_words_out cws) 5

-- 11: boot: memory empty, no multiple of 81, or over 65,536 lines
unfoldable pub memory_out : List ℕ → Bool
memory_out m = eqb (length m) 0 || (not (eqb (length m % line_bytes) 0) || ltb line_limit (length m / line_bytes))

abbrev pub refused11 : List ℕ → ℕ
refused11 m = refused_if (memory_out m) 11

-- 12: Enable clear, or N outside 1 to 65,536
unfoldable pub not_ready : Rank → Bool
not_ready r = not r.enable || not (is_line_count r.lines)

abbrev pub refused12 : Rank → ℕ
refused12 r = refused_if (not_ready r) 12

-- 13: memory is not 81 × N bytes
unfoldable pub memory_differs : Rank → List ℕ → Bool
memory_differs r m = not (eqb (length m) (line_bytes * r.lines))

abbrev pub refused13 : Rank → List ℕ → ℕ
refused13 r m = refused_if (memory_differs r m) 13

-- 14: a register differs from its catch-word
unfoldable pub register_differs : Rank → Bool
register_differs r = ltb 0 (count (λ k. not (eqb (get_or r.registers k 0) (get_or r.catch_words k 0))) chips)

abbrev pub refused14 : Rank → ℕ
refused14 r = refused_if (register_differs r) 14

-- 20: none flagged, words don't xor to zero
unfoldable pub unlocated_by : List ℕ → List ℕ → Bool
unlocated_by x cws = eqb (flagged_chips x cws) 0 && not (eqb (xor_all (pass_one x cws) chips) 0)

unfoldable pub unlocated : Rank → List ℕ → ℕ → Bool
unlocated r m l = unlocated_by (line_at m l) r.catch_words

abbrev pub refused20 : Rank → List ℕ → ℕ → ℕ
refused20 r m l = refused_if (unlocated r m l) 20

-- 21: two or more flagged, mended words don't xor to zero. Document 02, Req 02: so if none of them is beyond mending; not if just one is; in
-- any case if two or more are. Req 04: where none is beyond mending, only if no chip is blamed by the words flagged on the other lines of the row
unfoldable pub uncorrectable_by : Evidence → List ℕ → List ℕ → Bool
uncorrectable_by e x cws =
    ltb 1 (flagged_chips x cws)
    && (ltb 1 (beyond_chips x cws)
    || (eqb (beyond_chips x cws) 0 && (not (eqb (xor_all (pass_three x cws) chips) 0) && eqb (blamed_chips e x cws) 0)))

unfoldable pub uncorrectable : Rank → List ℕ → ℕ → Bool
uncorrectable r m l = uncorrectable_by (evidence_of r.lines m l r.catch_words) (line_at m l) r.catch_words

abbrev pub refused21 : Rank → List ℕ → ℕ → ℕ
refused21 r m l = refused_if (uncorrectable r m l) 21

-- 31: task not below 8
unfoldable pub task_out : ℕ → Bool
task_out task = not (is_task task)

abbrev pub refused31 : ℕ → ℕ
refused31 task = refused_if (task_out task) 31

-- the first of several refusals, 0 for none
abbrev pub first_of : List ℕ → ℕ
first_of [] = 0
first_of (zero ∷ ns) = first_of ns
first_of (suc n ∷ ns) = suc n

-- Order: boot 11, 5
unfoldable pub boot_refusal : List ℕ → List ℕ → ℕ
boot_refusal m cws = first_of (refused11 m ∷ refused5 cws ∷ [])

-- others 12, 13, 14, 31, 1, 2, 3, 4; a test of something that a call is not given is passed over
abbrev pub state_refusals : Rank → List ℕ → List ℕ
state_refusals r m = refused12 r ∷ refused13 r m ∷ refused14 r ∷ []

abbrev pub line_refusals : Rank → List ℕ → ℕ → List ℕ
line_refusals r m l = state_refusals r m ++ (refused1 r l ∷ [])

-- read and patrol, the calls that visit lines, name a task
abbrev pub visit_refusals : Rank → List ℕ → ℕ → ℕ → List ℕ
visit_refusals r m task l = state_refusals r m ++ (refused31 task ∷ refused1 r l ∷ [])

-- write: the buffer b
unfoldable pub write_refusal : Rank → List ℕ → ℕ → List ℕ → ℕ
write_refusal r m l b = first_of (line_refusals r m l ++ (refused2 b ∷ []))

-- what a read tests before its visit: the buffer b
unfoldable pub read_tests : Rank → List ℕ → ℕ → ℕ → List ℕ → ℕ
read_tests r m task l b = first_of (visit_refusals r m task l ++ (refused2 b ∷ []))

-- read: these, then 20 or 21, by what the visit finds
unfoldable pub read_refusal : Rank → List ℕ → ℕ → ℕ → List ℕ → ℕ
read_refusal r m task l b = first_of (visit_refusals r m task l ++ (refused2 b ∷ refused20 r m l ∷ refused21 r m l ∷ []))

-- patrol has no 20 or 21 of its own
unfoldable pub patrol_refusal : Rank → List ℕ → ℕ → ℕ → ℕ
patrol_refusal r m task first = first_of (visit_refusals r m task first)

-- renew has no memory
unfoldable pub renew_refusal : Rank → ℕ → ℕ
renew_refusal r k = first_of (refused12 r ∷ refused14 r ∷ refused3 k ∷ [])

unfoldable pub fault_refusal : Rank → List ℕ → ℕ → ℕ → List ℕ → ℕ
fault_refusal r m l k p = first_of (line_refusals r m l ++ (refused3 k ∷ refused4 p ∷ []))
