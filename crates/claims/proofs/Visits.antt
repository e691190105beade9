-- A visit of the device and one of the plain memory, to the same line under the premise: both answer, and with the same bytes, or both
-- refuse with 21, and the two stay related. This serves read and patrol; patrol makes a list of such visits.
-- Assumes nothing.
use mathlib.Core.Path.{◌≡◌, refl, sym, ap, ◌∙◌, subst}
use mathlib.Core.Bool.{Bool, true, false, not, cond, true≢false}
use mathlib.Core.List.{List, [], ◌∷◌, map}
use Prim.Native.Nat.{ℕ, zero, suc, ◌+◌, ◌*◌, ◌<◌, ◌≤◌}
use native.Mathlib.Omega.{arith}
use lib.Count.{ones}
use lib.Dec.{eqb}
use lib.Seq.{take_all}
use borrow.Author.Tests.{eqb-true, ltb-true}
use Rattle.code.specs.Lists.{Every, up_from, sum_of}
use Rattle.words.specs.Bytes.{number_of, bytes_of, bytes_from}
use Rattle.words.specs.ByteLaws.{bytes_bytes_from, bytes_of_number}
use Rattle.cells.specs.Chips.{joined, count}
use Rattle.cells.specs.ChipLaws.{joined_ext, count_zero}
use Rattle.cells.specs.Cells.{eight_at, line_word, stored}
use Rattle.cells.specs.CellLaws.{joined_blocks, length_eight, line_word_eight}
use Rattle.passes.specs.Passes.{is_flagged, beyond_chips}
use Rattle.line.specs.Blame.{Evidence, is_blamed, blamed_chips}
use Rattle.line.specs.Damage.{Parity, Tolerated, Answerable, LeftUndecided}
use Rattle.line.specs.Visit.{outcome_of, word_of, bytes_after, report_of}
use Rattle.line.specs.OutcomeLaws.{either_answered}
use Rattle.line.specs.DamageLaws.{line_parity}
use Rattle.line.specs.Restores.{Restores}
use Rattle.line.proofs.ToleratedLaws.{visit_answers, visit_diagnosed, visit_refuses, visit_kept, visit_beyond, visit_flagged}
use Rattle.line.specs.declared.Report.{Report}
use Rattle.line.specs.declared.Outcome.TheVariants.{Answered, Uncorrectable}
use Rattle.record.specs.declared.Rank.{Rank}
use Rattle.record.specs.Record.{moved, after_answer, after_visit}
use Rattle.memory.specs.Lines.{line_at, with_line}
use Rattle.rows.specs.Rows.{evidence_of, report_in, word_in, bytes_in}
use Rattle.visits.specs.Visits.{Device, visit_of, found_line, refused_by}
use Rattle.claims.specs.Plain.{Line, Plain, undamaged, damage, wide, blames, answers, visit_by, plain_visit, plain_refused_by, with_plain_line}
use Rattle.claims.specs.Premises.{LinePremise, Premise, AtVisits}
use Rattle.claims.specs.Claim.{laid}
use Rattle.claims.proofs.Lockstep.{Agree, Whole, lockstep}
use Rattle.claims.proofs.Rows.{blamed_same}
use Rattle.claims.proofs.Answers.{tolerated, Ends, decided, rightly, nobody, ends, answers_true, answers_blamed, answers_false}
use Rattle.claims.proofs.Related.{Formed, Ready, Holds, Related, formed_undamaged, laid_undamaged, holds_laid}

-- ---- a line as it lies

-- what a visit to it comes to, by what is counted over its row: it ends as the plain memory says, with its bytes if it is answered
pub record Same (x : Line) (e : Evidence) (cws : List ℕ) (a : Bool) : Type 0 where
  pub outcome : outcome_of e (laid x) cws ≡ cond a Answered Uncorrectable
  pub bytes : bytes_after e (laid x) cws ≡ cond a (stored (line_word x.bytes)) (laid x)
  pub word : a ≡ true → (k : ℕ) → k < 9 → word_of e (laid x) cws k ≡ line_word x.bytes k

module _ (x : Line) (f : Formed x) (h : LinePremise x) where
  parity : Parity (line_word x.bytes)
  parity = line_parity x.bytes f.size f.bytes

  patterns : Tolerated (λ k. number_of (x.pattern k))
  unfolding damage
  patterns = tolerated x f h

  -- no more than one of its flagged chips is beyond mending
  pub line_beyond : (cws : List ℕ) → beyond_chips (laid x) cws ≤ 1
  unfolding laid
  line_beyond cws = visit_beyond (line_word x.bytes) x.pattern parity f.nine f.fits patterns cws

  -- the flagged chips are the damaged ones
  pub line_flagged : (cws : List ℕ) (k : ℕ) → k < 9 → is_flagged (laid x) cws k ≡ not (eqb (damage x k) 0)
  unfolding laid damage
  line_flagged cws k l = visit_flagged (line_word x.bytes) x.pattern parity f.nine f.fits patterns cws k l

  module _ (e : Evidence) (cws : List ℕ) where
    same_restored : Restores (laid x) (line_word x.bytes) e cws → Same x e cws true
    same_restored r = record { outcome = r.answered; bytes = r.stored_again; word = λ _. r.word }

    -- its own bytes answer it
    pub same_decided : Answerable (damage x) → Same x e cws true
    unfolding laid damage
    same_decided a = same_restored (visit_answers (line_word x.bytes) x.pattern parity f.nine f.fits patterns e cws a)

    -- the chip with the wide pattern is blamed
    pub same_rightly : LeftUndecided (damage x) → (k : ℕ) → k < 9 → wide x k ≡ true → is_blamed e (laid x) cws k ≡ true → Same x e cws true
    unfolding laid damage
    same_rightly r k l w b =
        same_restored
        (visit_diagnosed (line_word x.bytes) x.pattern parity f.nine f.fits patterns e cws r k l (ltb-true 1 (ones (damage x k)) w) b)

    -- nobody is
    pub same_nobody : LeftUndecided (damage x) → ((k : ℕ) → k < 9 → is_blamed e (laid x) cws k ≡ false) → Same x e cws false
    unfolding laid damage blamed_chips
    same_nobody r none =
        let zero_blamed : count (is_blamed e (laid x) cws) 9 ≡ 0 = count_zero (is_blamed e (laid x) cws) 9 none in
        record {
          outcome = visit_refuses (line_word x.bytes) x.pattern parity f.nine f.fits patterns e cws r zero_blamed;
          bytes = visit_kept (line_word x.bytes) x.pattern parity f.nine f.fits patterns e cws r zero_blamed;
          word = λ z. absurd (true≢false (sym z));
        }

-- the words that were stored are the line's bytes
same_bytes : (x : Line) → Formed x → (word : ℕ → ℕ) → ((k : ℕ) → k < 9 → word k ≡ line_word x.bytes k) → joined (λ k. bytes_of 8 (word k)) 8 ≡ x.bytes
unfolding eight_at
same_bytes x f word same =
    joined_ext (λ k. bytes_of 8 (word k)) (λ k. bytes_from 8 (8 * k) x.bytes) 8 each_eight
    ∙ joined_blocks 8 8 x.bytes (omega (arith, f.size))
    ∙ take_all 64 x.bytes (omega (arith, f.size))
  where
    each_eight : (k : ℕ) → k < 8 → bytes_of 8 (word k) ≡ bytes_from 8 (8 * k) x.bytes
    each_eight k l =
        ap (bytes_of 8) (same k (omega arith) ∙ line_word_eight x.bytes f.size k l)
        ∙ bytes_of_number (bytes_from 8 (8 * k) x.bytes) 8 (bytes_bytes_from 8 (8 * k) x.bytes f.bytes)
        (length_eight x.bytes f.size k l)

-- ---- the record after a visit

-- registers grow as their catch-words do
pub ready_after_visit : (n task : ℕ) (r : Rank) (v : Report) → Ready n r → Ready n (after_visit task v r)
unfolding after_visit after_answer
ready_after_visit n task r v h =
    either_answered (Ready n) v.outcome
    (record { lines = h.lines; enable = h.enable; registers = ap (moved v.collisions) h.registers }) h

-- ---- a visit to a line in the memory

-- a plain memory with a line in its own place
with_same : (p : Plain) (l : ℕ) → with_plain_line p l (p.plain_line l) ≡ p
unfolding with_plain_line
with_same p l = λ i. record { lines = p.lines; plain_line = λ j. kept j (eqb j l) refl i }
  where
    kept : (j : ℕ) (b : Bool) → eqb j l ≡ b → cond b (p.plain_line l) (p.plain_line j) ≡ p.plain_line j
    kept j true e = ap p.plain_line (sym (eqb-true j l e))
    kept j false e = refl

module _ (n task : ℕ) (d : Device) (p : Plain) (l : ℕ) (in_n : l < n) (r : Related n d p) (h : Premise p l) where
  abbrev cws : List ℕ
  cws = d.rank.catch_words

  formed : Formed (p.plain_line l)
  formed = r.holds.formed l in_n

  lies : line_at d.memory l ≡ laid (p.plain_line l)
  lies = r.holds.each l in_n

  evidence : Evidence
  evidence = evidence_of d.rank.lines d.memory l cws

  -- who is blamed is the same in both
  same_blamed : (k : ℕ) → k < 9 → is_blamed evidence (laid (p.plain_line l)) cws k ≡ blames p l k
  unfolding evidence
  same_blamed k b =
      ap (λ (i : ℕ). is_blamed (evidence_of i d.memory l cws) (laid (p.plain_line l)) cws k) r.ready.lines
      ∙ ap (λ (m : List ℕ). is_blamed (evidence_of n d.memory l cws) m cws k) (sym lies)
      ∙ blamed_same n d.memory p r.holds cws l in_n k b
      (ap (λ (m : List ℕ). is_flagged m cws k) lies ∙ line_flagged (p.plain_line l) formed h.line cws k b)

  -- so the line ends as the plain memory says
  line_same : Same (p.plain_line l) evidence cws (answers p l)
  line_same = by (ends p l formed h)
    where
      x : Line
      x = p.plain_line l

      by : Ends p l → Same x evidence cws (answers p l)
      by (decided a) = subst (Same x evidence cws) (sym (answers_true p l formed h.line a)) (same_decided x formed h.line evidence cws a)
      by (rightly u k b w e) =
          subst (Same x evidence cws) (sym (answers_blamed p l formed h.line k b w e))
          (same_rightly x formed h.line evidence cws u k b w (same_blamed k b ∙ e))
      by (nobody u none) =
          subst (Same x evidence cws) (sym (answers_false p l formed h.line u none))
          (same_nobody x formed h.line evidence cws u (λ k b. same_blamed k b ∙ none k b))

  -- the device answers where the plain memory does, else it refuses with 21
  pub visited_outcome : (visit_of task d l).out.outcome ≡ cond (answers p l) Answered Uncorrectable
  unfolding visit_of report_in report_of evidence
  visited_outcome = ap (λ (m : List ℕ). outcome_of evidence m cws) lies ∙ line_same.outcome

  -- an answer gives the plain memory's bytes
  pub visited_found : answers p l ≡ true → found_line d.rank.lines d.memory l cws ≡ (p.plain_line l).bytes
  unfolding found_line word_in evidence
  visited_found a =
      same_bytes (p.plain_line l) formed (word_of evidence (line_at d.memory l) cws)
      (λ k b. ap (λ (m : List ℕ). word_of evidence m cws k) lies ∙ line_same.word a k b)

  visited_bytes : bytes_in d.rank.lines d.memory l cws
      ≡ cond (answers p l) (stored (line_word (p.plain_line l).bytes)) (laid (p.plain_line l))
  unfolding bytes_in evidence
  visited_bytes = ap (λ (m : List ℕ). bytes_after evidence m cws) lies ∙ line_same.bytes

  -- the line after it, in both
  holds_visited : (a : Bool) (bs : List ℕ) → bs ≡ cond a (stored (line_word (p.plain_line l).bytes)) (laid (p.plain_line l))
      → Holds n (with_line d.memory l bs) (visit_by a p l).now
  unfolding visit_by
  holds_visited true bs e =
      let x : Line = undamaged (p.plain_line l).bytes in
      holds_laid n d.memory p l in_n r.holds bs x (formed_undamaged (p.plain_line l).bytes formed.size formed.bytes)
      (e ∙ sym (laid_undamaged (p.plain_line l).bytes))
  holds_visited false bs e =
      subst (Holds n (with_line d.memory l bs)) (with_same p l) (holds_laid n d.memory p l in_n r.holds bs (p.plain_line l) formed e)

  -- the two stay related
  pub visited_related : Related n (visit_of task d l).now (plain_visit p l).now
  unfolding visit_of plain_visit
  visited_related =
      record {
        ready = ready_after_visit n task d.rank (report_in d.rank.lines d.memory l cws) r.ready;
        holds = holds_visited (answers p l) (bytes_in d.rank.lines d.memory l cws) visited_bytes;
      }

-- ---- a list of visits

abbrev pub report_refused : Report → ℕ
report_refused v = refused_by v.outcome

refused_same : (a : Bool) (p : Plain) (l : ℕ) → refused_by (cond a Answered Uncorrectable) ≡ plain_refused_by (visit_by a p l).out
unfolding visit_by
refused_same true p l = refl
refused_same false p l = refl

pub visit_same : (n task : ℕ) (d : Device) (p : Plain) (l : ℕ) → l < n → Related n d p → Premise p l
    → Agree (Related n) report_refused plain_refused_by (visit_of task d l) (plain_visit p l)
unfolding plain_visit
visit_same n task d p l in_n r h =
    record {
      same = ap refused_by (visited_outcome n task d p l in_n r h) ∙ refused_same (answers p l) p l;
      now_related = visited_related n task d p l in_n r h;
    }

-- as many visits are refused, and the two stay related
pub visits_same : (n task : ℕ) (ls : List ℕ) (d : Device) (p : Plain) → Every (λ l. l < n) ls → Related n d p → AtVisits p ls
    → Whole (Related n) report_refused plain_refused_by (visit_of task) plain_visit d p ls
visits_same n task =
    lockstep (Related n) report_refused plain_refused_by (visit_of task) plain_visit (λ l. l < n) Premise (visit_same n task)

-- what agrees element by element has the same sum
pub sum_map : {A B : Type 0} (g : A → B) (f : B → ℕ) (xs : List A) → sum_of (λ x. f (g x)) xs ≡ sum_of f (map g xs)
sum_map g f [] = refl
sum_map g f (x ∷ xs) = ap (λ (n : ℕ). f (g x) + n) (sum_map g f xs)

-- the lines that a patrol visits are below the line that it ends at
pub below_up_from : (n l k : ℕ) → l + k ≤ n → Every (λ j. j < n) (up_from l k)
below_up_from n l zero h = tt
below_up_from n l (suc k) h = (omega arith, below_up_from n (suc l) k (omega arith))
