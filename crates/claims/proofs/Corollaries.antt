-- What follows from demand 3 for a read after a list under the premise.
-- Assumes nothing.
use mathlib.Core.Path.{◌≡◌, refl, sym, ap, ◌∙◌, subst}
use mathlib.Core.Logic.{◌≢◌, ◌⊎◌, inl, inr}
use mathlib.Core.Bool.{Bool, true, false, cond}
use mathlib.Core.List.{List, [], ◌∷◌}
use Prim.Native.Nat.{ℕ, zero, suc, ◌/◌, ◌≤◌, ◌<◌}
use lib.Dec.{eqb}
use lib.ListN.{length, replicate}
use borrow.Author.Tests.{eq-eqb, ne_eqb}
use Rattle.code.specs.Code.{is_codeword}
use native.Mathlib.Omega.{arith}
use Rattle.words.specs.Bytes.{number_of, xor_bytes, bytes_of}
use Rattle.words.specs.ByteLaws.{number_zeros}
use Rattle.passes.specs.Passes.{beyond_chips}
use Rattle.line.specs.Damage.{Answerable}
use Rattle.cells.specs.ChipLaws.{joined_ext}
use Rattle.line.specs.FormerVisit.{report_with, AsBeforeRows}
use Rattle.line.proofs.FormerVisitLaws.{former_answered, before_rows, not_diagnosed_before}
use Rattle.memory.specs.Lines.{line_at, with_line}
use Rattle.rows.specs.Rows.{evidence_of, report_in, word_in, bytes_in}
use Rattle.record.specs.Record.{after_visit}
use Rattle.refusals.specs.RefusalLaws.{boot_passed}
use Rattle.visits.specs.Visits.{Device, visit_of, found_line}
use Rattle.visits.specs.Runs.{Did, outs}
use Rattle.rank.specs.Calls.{read_of}
use Rattle.claims.specs.Lists.{Call, write, read, fault, Compared, refused, done, line, counts, compared_by, device_call}
use Rattle.claims.specs.Plain.{Line, Plain, undamaged, with_plain_line, with_fault, damage, answers, visit_by, plain_visit, plain_refusal, plain_accepted, plain_by, plain_call}
use Rattle.claims.specs.Premises.{LinePremise, Premise, PremiseBy, AtCalls}
use Rattle.claims.specs.Claim.{UnderPremise}
use Rattle.claims.specs.Damages.{OneChip, Refused}
use Rattle.claims.specs.Corollaries.{ReadsLine, device_after, plain_after, OneChipAnswers, OneBitAnswers, OneBeyondAnswers, BadRowAnswers, RefusedOnly, OneFaultAnswers, AnsweredReadLine, AnsweredBefore, visit_before, found_before, SameVisit, AnsweredBeforeRows, UndiagnosedSame}
use Rattle.claims.proofs.Related.{Formed, Related, formed_undamaged, formed_fault}
use Rattle.claims.proofs.Answers.{Ends, decided, rightly, nobody, ends, answers_true, answers_blamed, answers_false, refused_shows}
use Rattle.claims.proofs.Visits.{line_beyond}
use Rattle.claims.proofs.Calls.{call_same}
use Rattle.claims.proofs.Claims.{FaithfulFrom, faithful_from, faithful_boot}
use Rattle.claims.proofs.Damages.{one_premise, one_answerable, narrow_premise, narrow_answerable, beyond_premise, beyond_answerable, premise_answerable, bad_premise, bad_answers, zeros_xor}
use Rattle.claims.proofs.PlainCalls.{plain_read, plain_write, plain_fault, with_here, premise_read, premise_write, premise_fault}

module _ (m cws : List ℕ) (cs : List Call) (u : UnderPremise m cws cs) where
  related : Related (length m / 81) (device_after m cws cs) (plain_after m cs)
  related = (faithful_boot m cws cs u).related

  -- the read's answer is the plain memory's
  read_compared : (task l : ℕ) (b : List ℕ)
      → PremiseBy (plain_refusal (plain_after m cs).lines (read task l b)) (plain_after m cs) (read task l b)
      → (device_call (device_after m cws cs) (read task l b)).out ≡ (plain_call (plain_after m cs) (read task l b)).out
  read_compared task l b g =
      let a = boot_passed m cws u.boots in
      (call_same (length m / 81) a.some a.few (device_after m cws cs) (plain_after m cs) (read task l b) tt related g).same

  formed : (l : ℕ) → l < length m / 81 → Formed ((plain_after m cs).plain_line l)
  formed = related.holds.formed

  -- its answer, by how the visit ends
  read_visited : (task l : ℕ) (b : List ℕ) → ReadsLine m task l b → Premise (plain_after m cs) l → (t : Bool) → answers (plain_after m cs) l ≡ t
      → (device_call (device_after m cws cs) (read task l b)).out ≡ (visit_by t (plain_after m cs) l).out
  unfolding plain_visit
  read_visited task l b s g t a =
      let p : Plain = plain_after m cs in
      let in_p : l < p.lines = subst (λ (k : ℕ). l < k) (sym related.holds.lines) s.below in
      read_compared task l b (premise_read (plain_refusal p.lines (read task l b)) p task l b g)
      ∙ ap (λ (x : Did Plain Compared). x.out) (plain_read p task l b s.named in_p s.room)
      ∙ ap (λ (t : Bool). (visit_by t p l).out) a

  read_answered : (task l : ℕ) (b : List ℕ) → ReadsLine m task l b → Premise (plain_after m cs) l → answers (plain_after m cs) l ≡ true
      → (device_call (device_after m cws cs) (read task l b)).out ≡ line ((plain_after m cs).plain_line l).bytes
  unfolding visit_by
  read_answered task l b s g a = read_visited task l b s g true a

  -- where the line's own bytes answer
  line_answered : (task l : ℕ) (b : List ℕ) → ReadsLine m task l b → LinePremise ((plain_after m cs).plain_line l)
      → Answerable (damage ((plain_after m cs).plain_line l))
      → (device_call (device_after m cws cs) (read task l b)).out ≡ line ((plain_after m cs).plain_line l).bytes
  line_answered task l b s g a =
      let p : Plain = plain_after m cs in
      let f : Formed (p.plain_line l) = formed l s.below in
      read_answered task l b s (premise_answerable p l f g a) (answers_true p l f g a)

-- ---- a read after a list

-- where no other chip of the line is damaged, and its damage is zero or no codeword
pub one_chip_answers : OneChipAnswers
one_chip_answers k m cws cs u task l b s o =
    let x : Line = (plain_after m cs).plain_line l in
    line_answered m cws cs u task l b s (one_premise x k o) (one_answerable x k o)

-- where no chip of the line has more than one bad bit
pub one_bit_answers : OneBitAnswers
one_bit_answers m cws cs u task l b s o =
    let x : Line = (plain_after m cs).plain_line l in
    let f : Formed x = formed m cws cs u l s.below in
    line_answered m cws cs u task l b s (narrow_premise x f o) (narrow_answerable x f o)

-- where one chip is beyond mending and no other has more than one bad bit
pub one_beyond_answers : OneBeyondAnswers
one_beyond_answers k m cws cs u task l b s o =
    let x : Line = (plain_after m cs).plain_line l in
    let f : Formed x = formed m cws cs u l s.below in
    line_answered m cws cs u task l b s (beyond_premise x f k o) (beyond_answerable x f k o)

-- in a bad row, whatever the bad chip's damage in the line
pub bad_row_answers : BadRowAnswers
bad_row_answers k m cws cs u task l b s o =
    let p : Plain = plain_after m cs in
    let f : Formed (p.plain_line l) = formed m cws cs u l s.below in
    read_answered m cws cs u task l b s (bad_premise p l k f o) (bad_answers p l k f o)

-- an answer, or a 21 for which nobody is blamed
pub refused_only : RefusedOnly
unfolding visit_by
refused_only m cws cs u task l b s g = by (ends p l f g)
  where
    p : Plain
    p = plain_after m cs

    f : Formed (p.plain_line l)
    f = formed m cws cs u l s.below

    by : Ends p l
        → ((device_call (device_after m cws cs) (read task l b)).out ≡ line (p.plain_line l).bytes)
        ⊎ (((device_call (device_after m cws cs) (read task l b)).out ≡ refused 21) × Refused p l)
    by (decided a) = inl (read_answered m cws cs u task l b s g (answers_true p l f g.line a))
    by (rightly r k c w e) = inl (read_answered m cws cs u task l b s g (answers_blamed p l f g.line k c w e))
    by (nobody r none) =
        inr (read_visited m cws cs u task l b s g false (answers_false p l f g.line r none), refused_shows p l f g.line r none)

-- the premise leaves no more than one chip beyond mending
pub answered_before : AnsweredBefore
answered_before m cws cs u l words e in_n g a =
    let x : Line = (plain_after m cs).plain_line l in
    let few : beyond_chips (line_at (device_after m cws cs).memory l) words ≤ 1 =
    subst (λ (bytes : List ℕ). beyond_chips bytes words ≤ 1) (sym ((related m cws cs u).holds.each l in_n))
    (line_beyond x (formed m cws cs u l in_n) g words) in
    former_answered e (line_at (device_after m cws cs).memory l) words few a

-- what holds of the line, for the record and the memory
same_visit : (task : ℕ) (d : Device) (l : ℕ)
    → AsBeforeRows (evidence_of d.rank.lines d.memory l d.rank.catch_words) (line_at d.memory l) d.rank.catch_words
    → SameVisit task d l
unfolding visit_before found_before visit_of report_in bytes_in found_line word_in
same_visit task d l same = (
  λ i. record {
    out = same.report i;
    now = record { rank = after_visit task (same.report i) d.rank; memory = with_line d.memory l (same.bytes i) };
  },
  joined_ext _ _ 8 (λ k b. ap (bytes_of 8) (same.word k (omega arith))),
)

-- the line's own bytes answered it, and still do
pub answered_before_rows : AnsweredBeforeRows
unfolding visit_before report_with
answered_before_rows task d l a = same_visit task d l (before_rows _ (line_at d.memory l) d.rank.catch_words a)

pub undiagnosed_same : UndiagnosedSame
undiagnosed_same task d l h = same_visit task d l (not_diagnosed_before _ (line_at d.memory l) d.rank.catch_words h)

-- its answer is the plain memory's, which is the line written
pub answered_read_line : AnsweredReadLine
unfolding device_call plain_call plain_by plain_accepted plain_visit visit_by
answered_read_line m cws cs u task l b g z = by (plain_refusal p.lines (read task l b)) (given ∙ read_compared m cws cs u task l b g)
  where
    d : Device
    d = device_after m cws cs

    p : Plain
    p = plain_after m cs

    buffer : List ℕ
    buffer = (read_of d.rank d.memory task l b).buffer

    given : line buffer ≡ (device_call d (read task l b)).out
    given = ap (λ (n : ℕ). compared_by n (line buffer)) (sym z)

    bytes_or : List ℕ → Compared → List ℕ
    bytes_or other (refused n) = other
    bytes_or other done = other
    bytes_or other (line c) = c
    bytes_or other (counts v n) = other

    visited : (a : Bool) → line buffer ≡ (visit_by a p l).out → buffer ≡ (p.plain_line l).bytes
    visited true q = ap (bytes_or (p.plain_line l).bytes) q
    visited false q = ap (bytes_or (p.plain_line l).bytes) q

    by : (n : ℕ) → line buffer ≡ (plain_by n p (read task l b)).out → buffer ≡ (p.plain_line l).bytes
    by zero q = visited (answers p l) q
    by (suc n) q = ap (bytes_or (p.plain_line l).bytes) q

-- ---- one damaged chip, in three calls

-- the first call of a list, where it is known what it does
outs_step : (p q : Plain) (c : Call) (cs : List Call) (o : Compared) → plain_call p c ≡ record { out = o; now = q }
    → outs plain_call p (c ∷ cs) ≡ o ∷ outs plain_call q cs
outs_step p q c cs o e = ap (λ (x : Did Plain Compared). x.out ∷ outs plain_call x.now cs) e

at_step : (p q : Plain) (c : Call) (cs : List Call) (o : Compared) → plain_call p c ≡ record { out = o; now = q }
    → PremiseBy (plain_refusal p.lines c) p c → AtCalls q cs → AtCalls p (c ∷ cs)
at_step p q c cs o e h rest = (h, subst (λ (x : Did Plain Compared). AtCalls x.now cs) (sym e) rest)

-- a line that was written and then damaged in one chip
one_faulted : (b : List ℕ) (k : ℕ) (q : List ℕ) → length q ≡ 9 → (is_codeword (number_of q) ≡ true → number_of q ≡ 0)
    → OneChip (with_fault (undamaged b) k q) k
unfolding with_fault undamaged damage
one_faulted b k q size c = record { others = λ j l ne. other j ne; detected = λ g. here ∙ c (ap is_codeword (sym here) ∙ g) }
  where
    here : number_of (cond (eqb k k) (xor_bytes (replicate 9 0) q) (replicate 9 0)) ≡ number_of q
    here =
        ap (λ (t : Bool). number_of (cond t (xor_bytes (replicate 9 0) q) (replicate 9 0))) (eq-eqb k k refl)
        ∙ ap number_of (zeros_xor q 9 size)

    other : (j : ℕ) → j ≢ k → number_of (cond (eqb j k) (xor_bytes (replicate 9 0) q) (replicate 9 0)) ≡ 0
    other j ne =
        ap (λ (t : Bool). number_of (cond t (xor_bytes (replicate 9 0) q) (replicate 9 0))) (ne_eqb j k ne) ∙ number_zeros 9

-- its bytes are those written
fault_keeps_bytes : (b : List ℕ) (k : ℕ) (q : List ℕ) → (with_fault (undamaged b) k q).bytes ≡ b
unfolding with_fault undamaged
fault_keeps_bytes b k q = refl

pub one_fault_answers : OneFaultAnswers
unfolding plain_visit visit_by with_plain_line
one_fault_answers m cws cs u task l k b q buffer s chip size bytes nine fits c = from.answers ∙ plain_answers_lem
  where
    three : List Call
    three = write l b ∷ fault l k q ∷ read task l buffer ∷ []

    p₀ : Plain
    p₀ = plain_after m cs

    p₁ : Plain
    p₁ = with_plain_line p₀ l (undamaged b)

    p₂ : Plain
    p₂ = with_plain_line p₁ l (with_fault (p₁.plain_line l) k q)

    in_p : l < p₀.lines
    in_p = subst (λ (n : ℕ). l < n) (sym (related m cws cs u).holds.lines) s.below

    written : plain_call p₀ (write l b) ≡ record { out = done; now = p₁ }
    written = plain_write p₀ l b in_p size

    faulted_there : plain_call p₁ (fault l k q) ≡ record { out = done; now = p₂ }
    faulted_there = plain_fault p₁ l k q in_p chip nine

    line_is : p₂.plain_line l ≡ with_fault (undamaged b) k q
    line_is = with_here p₁ l (with_fault (p₁.plain_line l) k q) ∙ ap (λ (x : Line). with_fault x k q) (with_here p₀ l (undamaged b))

    one : OneChip (p₂.plain_line l) k
    one = subst (λ (x : Line). OneChip x k) (sym line_is) (one_faulted b k q nine c)

    formed_there : Formed (p₂.plain_line l)
    formed_there = subst Formed (sym line_is) (formed_fault (undamaged b) k q (formed_undamaged b size bytes) nine fits)

    at : AtCalls p₀ three
    at =
        at_step p₀ p₁ (write l b) (fault l k q ∷ read task l buffer ∷ []) done written
        (premise_write (plain_refusal p₀.lines (write l b)) p₀ l b)
        (at_step p₁ p₂ (fault l k q) (read task l buffer ∷ []) done faulted_there (premise_fault (plain_refusal p₁.lines (fault l k q)) p₁ l k q)
        (premise_read (plain_refusal p₂.lines (read task l buffer)) p₂ task l buffer (premise_answerable p₂ l formed_there (one_premise (p₂.plain_line l) k one) (one_answerable (p₂.plain_line l) k one)), tt))

    from : FaithfulFrom (length m / 81) (device_after m cws cs) p₀ three
    from =
        let a = boot_passed m cws u.boots in
        faithful_from (length m / 81) a.some a.few three (device_after m cws cs) p₀ (bytes, (fits, (tt, tt)))
        (related m cws cs u) at

    plain_answers_lem : outs plain_call p₀ three ≡ done ∷ done ∷ line b ∷ []
    plain_answers_lem =
        outs_step p₀ p₁ (write l b) (fault l k q ∷ read task l buffer ∷ []) done written
        ∙ ap (λ (ss : List Compared). done ∷ ss)
        (outs_step p₁ p₂ (fault l k q) (read task l buffer ∷ []) done faulted_there
        ∙ ap (λ (x : Did Plain Compared). done ∷ x.out ∷ []) (plain_read p₂ task l buffer s.named in_p s.room)
        ∙ ap (λ (a : Bool). done ∷ (visit_by a p₂ l).out ∷ []) (answers_true p₂ l formed_there (one_premise (p₂.plain_line l) k one) (one_answerable (p₂.plain_line l) k one))
        ∙ ap (λ (x : List ℕ). done ∷ line x ∷ []) (ap (λ (x : Line). x.bytes) line_is ∙ fault_keeps_bytes b k q))
