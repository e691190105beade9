-- That the plain memory gets no catch-words; and what follows from demand 3 for a read or a visit after any list under the premise, each as
-- one statement. m is the memory lent to boot, cws are its catch-words, cs the calls of the list, and l is a line's number.
-- Definitions alone; the theorems are in `proofs/Corollaries.antt`, that of the first in `proofs/PlainCalls.antt`.
use Rattle.std.specs.Prelude.{◌≡◌, ◌⊎◌, true, List, [], ◌∷◌, ℕ, ◌/◌, ◌<◌, length}
use Rattle.code.specs.Code.{is_codeword}
use Rattle.words.specs.Bytes.{Bytes, number_of, bytes_of}
use Rattle.cells.specs.Chips.{joined}
use Rattle.line.specs.Blame.{Evidence}
use Rattle.line.specs.Visit.{own_word}
use Rattle.line.specs.FormerVisit.{former_outcome, AsBefore, outcome_before_rows, NotDiagnosed, report_with, bytes_with}
use Rattle.line.specs.declared.Report.{Report}
use Rattle.line.specs.declared.Outcome.{Outcome}
use Rattle.line.specs.declared.Outcome.TheVariants.{Answered}
use Rattle.memory.specs.Lines.{line_at, with_line}
use Rattle.record.specs.Record.{after_visit}
use Rattle.visits.specs.Runs.{Did, outs, end}
use Rattle.visits.specs.Visits.{Device, visit_of, found_line}
use Rattle.rank.specs.Calls.{read_of}
use Rattle.claims.specs.Lists.{Call, write, read, renew, fault, refused, done, line, device_call}
use Rattle.claims.specs.Plain.{Line, Plain, plain_refusal, plain_call}
use Rattle.claims.specs.Premises.{LinePremise, Premise, PremiseBy}
use Rattle.claims.specs.Claim.{booted_device, booted_plain, UnderPremise}
use Rattle.claims.specs.Damages.{OneChip, Narrow, OneBeyond, Refused, BadRow}

-- the plain memory gets no catch-words: it does not look at the word of a renew
abbrev pub RenewWordUnused : Type 0
RenewWordUnused = (p : Plain) (k w v : ℕ) → plain_call p (renew k w) ≡ plain_call p (renew k v)

-- a read that 31, 1 and 2 don't refuse
pub record ReadsLine (m : List ℕ) (task l : ℕ) (b : List ℕ) : Type 0 where
  pub named : task < 8
  pub below : l < length m / 81
  pub room : length b ≡ 64

-- the device and the plain memory after the list
abbrev pub device_after : List ℕ → List ℕ → List Call → Device
device_after m cws cs = end device_call (booted_device m cws) cs

abbrev pub plain_after : List ℕ → List Call → Plain
plain_after m cs = end plain_call (booted_plain m) cs

-- where a line's damage, and that of its row, is such, a read of it after the list answers the line written
abbrev pub AnswersWhere : (Plain → ℕ → Type 0) → Type 0
AnswersWhere Such =
    (m cws : List ℕ) (cs : List Call) → UnderPremise m cws cs → (task l : ℕ) (b : List ℕ) → ReadsLine m task l b
    → Such (plain_after m cs) l
    → (device_call (device_after m cws cs) (read task l b)).out ≡ line ((plain_after m cs).plain_line l).bytes

-- where the line's damage alone is such
abbrev pub AnswersIf : (Line → Type 0) → Type 0
AnswersIf Such = AnswersWhere (λ p l. Such (p.plain_line l))

-- one damaged chip, whose damage is no codeword
abbrev pub OneChipAnswers : Type 0
OneChipAnswers = (k : ℕ) → AnswersIf (λ x. OneChip x k)

-- no chip with more than one bad bit
abbrev pub OneBitAnswers : Type 0
OneBitAnswers = AnswersIf Narrow

-- one chip beyond mending, and no other with more than one bad bit
abbrev pub OneBeyondAnswers : Type 0
OneBeyondAnswers = (k : ℕ) → AnswersIf (λ x. OneBeyond x k)

-- document 02, Req 04: a bad row, whatever the bad chip's damage in the line
abbrev pub BadRowAnswers : Type 0
BadRowAnswers = (k : ℕ) → AnswersWhere (λ p l. BadRow p l k)

-- when a read is refused: under the premise, one whose arguments fit answers the line written, or it is refused with 21 for damage of one kind
abbrev pub RefusedOnly : Type 0
RefusedOnly =
    (m cws : List ℕ) (cs : List Call) → UnderPremise m cws cs → (task l : ℕ) (b : List ℕ) → ReadsLine m task l b → Premise (plain_after m cs) l
    → ((device_call (device_after m cws cs) (read task l b)).out ≡ line ((plain_after m cs).plain_line l).bytes)
    ⊎ (((device_call (device_after m cws cs) (read task l b)).out ≡ refused 21) × Refused (plain_after m cs) l)

-- what is written, then damaged in one chip by a pattern that is zero or no codeword, is read back, after any list
abbrev pub OneFaultAnswers : Type 0
OneFaultAnswers =
    (m cws : List ℕ) (cs : List Call) → UnderPremise m cws cs → (task l k : ℕ) (b q buffer : List ℕ) → ReadsLine m task l buffer
    → k < 9 → length b ≡ 64 → Bytes b → length q ≡ 9 → Bytes q → (is_codeword (number_of q) ≡ true → number_of q ≡ 0)
    → outs device_call (device_after m cws cs) (write l b ∷ fault l k q ∷ read task l buffer ∷ []) ≡ done ∷ done ∷ line b ∷ []

-- under the premise an answered read never gives another line: its buffer holds the line written
abbrev pub AnsweredReadLine : Type 0
AnsweredReadLine =
    (m cws : List ℕ) (cs : List Call) → UnderPremise m cws cs → (task l : ℕ) (b : List ℕ)
    → PremiseBy (plain_refusal (plain_after m cs).lines (read task l b)) (plain_after m cs) (read task l b)
    → (read_of (device_after m cws cs).rank (device_after m cws cs).memory task l b).result.refusal ≡ 0
    → (read_of (device_after m cws cs).rank (device_after m cws cs).memory task l b).buffer ≡ ((plain_after m cs).plain_line l).bytes

-- Document 02, Req 02: under the premise, a visit that answered by document 01's step 5 reports, finds and leaves the same now, whatever the
-- catch-words and whatever is counted over the row. So each visit of a patrol is meant too: the visits before it change the record and other
-- lines, and not this line.
abbrev pub AnsweredBefore : Type 0
AnsweredBefore =
    (m cws : List ℕ) (cs : List Call) → UnderPremise m cws cs → (l : ℕ) (words : List ℕ) (e : Evidence) → l < length m / 81
    → LinePremise ((plain_after m cs).plain_line l) → former_outcome (line_at (device_after m cws cs).memory l) words ≡ Answered
    → AsBefore e (line_at (device_after m cws cs).memory l) words

-- Document 02, Req 04: one visit, from any record and memory and with no premise. The visit as it was before, by the line's own bytes
unfoldable pub visit_before : ℕ → Device → ℕ → Did Device Report
visit_before task d l =
    let x : List ℕ = line_at d.memory l in
    let cws : List ℕ = d.rank.catch_words in
    let o : Outcome = outcome_before_rows x cws in
    record {
      out = report_with o x cws;
      now = record {
        rank = after_visit task (report_with o x cws) d.rank;
        memory = with_line d.memory l (bytes_with o (own_word x cws) x cws);
      };
    }

-- what it found
unfoldable pub found_before : Device → ℕ → List ℕ
found_before d l = joined (λ k. bytes_of 8 (own_word (line_at d.memory l) d.rank.catch_words k)) 8

-- the visit is what it was: report, with its passes, record, memory and line
abbrev pub SameVisit : ℕ → Device → ℕ → Type 0
SameVisit task d l =
    (visit_of task d l ≡ visit_before task d l) × (found_line d.rank.lines d.memory l d.rank.catch_words ≡ found_before d l)

-- what was answered is answered the same
abbrev pub AnsweredBeforeRows : Type 0
AnsweredBeforeRows = (task : ℕ) (d : Device) (l : ℕ) → (visit_before task d l).out.outcome ≡ Answered → SameVisit task d l

-- and whatever comes to no diagnosis, refusals included, is as it was
abbrev pub UndiagnosedSame : Type 0
UndiagnosedSame = (task : ℕ) (d : Device) (l : ℕ) → NotDiagnosed (line_at d.memory l) d.rank.catch_words → SameVisit task d l
