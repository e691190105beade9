-- Where Enable is set, the memory holds bytes: an accepted boot leaves it so, and every call keeps it so.
-- Assumes nothing.
use mathlib.Core.Path.{◌≡◌, refl, sym, subst}
use mathlib.Core.Bool.{Bool, true, false, cond, true≢false}
use mathlib.Core.List.{List, [], ◌∷◌}
use Prim.Native.Nat.{ℕ, zero, suc, ◌*◌, ◌<◌}
use lib.Dec.{lit<}
use lib.ListN.{length, set}
use lib.Seq.{sets}
use Rattle.cells.specs.Chips.{joined}
use Rattle.words.specs.Bytes.{xor_bytes, Bytes}
use Rattle.words.specs.ByteLaws.{bytes_cons, bytes_tail, bytes_append, bytes_zeros, bytes_xor, bytes_bytes_from}
use Rattle.cells.specs.Cells.{chip_at, codeword, with_chip, line_word, stored}
use Rattle.cells.specs.CellLaws.{bytes_codeword}
use Rattle.passes.specs.Passes.{is_flagged}
use Rattle.line.specs.Blame.{Evidence}
use Rattle.line.specs.Visit.{outcome_of, word_of, with_words, written_back, bytes_after}
use Rattle.line.specs.OutcomeLaws.{either_answered}
use Rattle.visits.specs.Runs.{Did, end}
use Rattle.memory.specs.Lines.{line_at, with_line, faulted}
use Rattle.rows.specs.Rows.{bytes_in}
use Rattle.memory.specs.LineLaws.{bytes_line}
use Rattle.record.specs.Record.{fresh, renewed}
use Rattle.refusals.specs.Refusals.{boot_refusal}
use Rattle.refusals.specs.RefusalLaws.{write_passed, read_passed, patrol_passed, fault_passed}
use Rattle.visits.specs.Visits.{Device, visit_of, read_by}
use Rattle.rank.specs.Calls.{boot_by, boot_of, write_by, patrolled, patrol_lines, patrol_by, renew_by, fault_by}
use Rattle.claims.specs.Lists.{Call, write, read, patrol, renew, fault, Typed, Compared, device_call}
use Rattle.claims.specs.Claim.{booted_device}
use Rattle.claims.proofs.Refusals.{device_refusal}
use Rattle.claims.proofs.Calls.{device_by, device_by_lem, device_refused}

-- ---- bytes laid over bytes

-- one byte
bytes_set : (m : List ℕ) (i b : ℕ) → Bytes m → b < 256 → Bytes (set m i b)
bytes_set [] i b h g = h
bytes_set (x ∷ m) zero b h g = bytes_cons b m g (bytes_tail x m h)
bytes_set (x ∷ m) (suc i) b h g = bytes_cons x (set m i b) (h 0) (bytes_set m i b (bytes_tail x m h) g)

-- several
bytes_sets : (bs m : List ℕ) (i : ℕ) → Bytes m → Bytes bs → Bytes (sets m i bs)
bytes_sets [] m i h g = h
bytes_sets (b ∷ bs) m i h g = bytes_sets bs (set m i b) (suc i) (bytes_set m i b h (g 0)) (bytes_tail b bs g)

-- a line
bytes_laid : (m : List ℕ) (l : ℕ) (bs : List ℕ) → Bytes m → Bytes bs → Bytes (with_line m l bs)
unfolding with_line
bytes_laid m l bs h g = bytes_sets bs m (81 * l) h g

-- ---- the lines that calls lay

-- chips of bytes make a line of bytes
bytes_joined : (f : ℕ → List ℕ) (n : ℕ) → ((k : ℕ) → Bytes (f k)) → Bytes (joined f n)
unfolding joined
bytes_joined f zero h = λ i. lit< tt
bytes_joined f (suc n) h = bytes_append (joined f n) (f n) (bytes_joined f n h) (h n)

-- a chip of a line of bytes
bytes_chip : (x : List ℕ) (k : ℕ) → Bytes x → Bytes (chip_at x k)
unfolding chip_at
bytes_chip x k h = bytes_bytes_from 9 (9 * k) x h

-- a line that a write lays
bytes_stored : (w : ℕ → ℕ) → Bytes (stored w)
unfolding stored
bytes_stored w = bytes_joined (λ k. codeword (w k)) 9 (λ k. bytes_codeword (w k))

-- a line with a fault in it
bytes_faulted : (x : List ℕ) (k : ℕ) (q : List ℕ) → Bytes x → Bytes q → Bytes (faulted x k q)
unfolding faulted with_chip
bytes_faulted x k q h g = bytes_sets (xor_bytes (chip_at x k) q) x (9 * k) h (bytes_xor (chip_at x k) q (bytes_chip x k h) g)

-- a line after a visit
bytes_after_lem : (e : Evidence) (x cws : List ℕ) → Bytes x → Bytes (bytes_after e x cws)
unfolding bytes_after written_back with_words
bytes_after_lem e x cws h = either_answered Bytes (outcome_of e x cws) (bytes_joined _ 9 (λ k. either k (is_flagged x cws k))) h
  where
    either : (k : ℕ) (b : Bool) → Bytes (cond b (codeword (word_of e x cws k)) (chip_at x k))
    either k true = bytes_codeword (word_of e x cws k)
    either k false = bytes_chip x k h

-- ---- visits and calls

-- the memory after a visit
pub visit_bytes : (task : ℕ) (d : Device) (l : ℕ) → Bytes d.memory → Bytes (visit_of task d l).now.memory
unfolding visit_of bytes_in
visit_bytes task d l h = bytes_laid d.memory l _ h (bytes_after_lem _ (line_at d.memory l) _ (bytes_line d.memory l h))

-- after several
visits_bytes : (task : ℕ) (ls : List ℕ) (d : Device) → Bytes d.memory → Bytes (end (visit_of task) d ls).memory
visits_bytes task [] d h = h
visits_bytes task (l ∷ ls) d h = visits_bytes task ls (visit_of task d l).now (visit_bytes task d l h)

-- where Enable is set, the memory holds bytes
abbrev pub BytesIfEnabled : Device → Type 0
BytesIfEnabled d = d.rank.enable ≡ true → Bytes d.memory

accepted_bytes : (d : Device) (c : Call) → Typed c → device_refusal d c ≡ 0 → BytesIfEnabled d → BytesIfEnabled (device_by zero d c).now
unfolding device_by write_by read_by patrol_by patrol_lines renew_by renewed fault_by
accepted_bytes d (write l b) t e h =
    let held = h (write_passed d.rank d.memory l b e).0.enabled in
    λ on. bytes_laid d.memory l _ held (bytes_stored (line_word b))
accepted_bytes d (read task l b) t e h =
    let held = h (read_passed d.rank d.memory task l b e).0.enabled in
    λ on. visit_bytes task d l held
accepted_bytes d (patrol task first budget) t e h =
    let held = h (patrol_passed d.rank d.memory task first e).0.enabled in
    λ on. visits_bytes task (patrolled d.rank first budget) d held
accepted_bytes d (renew k w) t e h = h
accepted_bytes d (fault l k q) t e h =
    let held = h (fault_passed d.rank d.memory l k q e).0.enabled in
    λ on. bytes_laid d.memory l _ held (bytes_faulted (line_at d.memory l) k q (bytes_line d.memory l held) t)

-- every call keeps it so
pub call_bytes : (d : Device) (c : Call) → Typed c → BytesIfEnabled d → BytesIfEnabled (device_call d c).now
call_bytes d c t h = subst (λ (x : Did Device Compared). BytesIfEnabled x.now) (sym (device_by_lem d c)) (by (device_refusal d c) refl)
  where
    by : (n : ℕ) → device_refusal d c ≡ n → BytesIfEnabled (device_by n d c).now
    by zero e = accepted_bytes d c t e h
    by (suc n) e = subst (λ (x : Did Device Compared). BytesIfEnabled x.now) (sym (device_refused n d c)) h

-- a boot leaves it so; a refused one leaves Enable clear
pub boot_bytes : (m cws : List ℕ) → BytesIfEnabled (booted_device m cws)
unfolding booted_device boot_of boot_by fresh
boot_bytes m cws = by (boot_refusal m cws)
  where
    by : (n : ℕ) → BytesIfEnabled (record { rank = (boot_by n m cws).result.rank; memory = (boot_by n m cws).memory })
    by zero = λ on. bytes_zeros (length m)
    by (suc n) = λ on. absurd (true≢false (sym on))
