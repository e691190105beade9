-- `steps::decide` meets its contract. Assumes nothing.
use mathlib.Core.Path.{◌≡◌, sym, ap, ◌∙◌, subst}
use mathlib.Core.List.{List}
use Prim.Native.Nat.{ℕ}
use Rattle.line.specs.declared.Examined.{Examined}
use Rattle.line.specs.declared.Finding.{Finding}
use Rattle.line.specs.Visit.{finding_of, outcome_of, word_of, examined_of}
use Rattle.memory.specs.Lines.{line_at}
use Rattle.rows.specs.Rows.{evidence_of, word_in}
use Rattle.steps.proofs.Deciding.{Ends, ends_decided, ends_diagnosed, left_xor, left_words, left_checks}
use Rattle.steps.proofs.decide.Goals as goal

-- what was found is what the line's own bytes tell
finding_is : (m cws : List ℕ) {e : Examined} → e ≡ examined_of m cws → e.finding ≡ finding_of m cws
unfolding examined_of
finding_is m cws q = ap (λ (e : Examined). e.finding) q

flagged_is : (m cws : List ℕ) {e : Examined} → e ≡ examined_of m cws → e.flagged ≡ (examined_of m cws).flagged
flagged_is m cws q = ap (λ (e : Examined). e.flagged) q

pub diagnose-requires : goal.diagnose-requires
unfolding examined_of
diagnose-requires c =
    let a = c.args in
    let m = line_at a.memory.now a.line in
    let cws = a.catch_words.now in
    let e = evidence_of a.lines a.memory.now a.line cws in
    let told = c.in-Undecided.is in
    let same = finding_is m cws c.requires.examined in
    record {
      sizes = c.requires.sizes;
      flagged = flagged_is m cws c.requires.examined;
      xor = left_xor e m cws told same;
      words = left_words e m cws told same a.places.now.words c.requires.words;
      checks = left_checks e m cws told same a.places.now.words a.places.now.checks c.requires.checks;
    }

pub returns-in-Decided : goal.returns-in-Decided
unfolding outcome_of word_of word_in
returns-in-Decided c =
    let a = c.args in
    let m = line_at a.memory.now a.line in
    let cws = a.catch_words.now in
    let e = evidence_of a.lines a.memory.now a.line cws in
    let told = c.in-Decided.is in
    let ends =
    subst (λ (f : Finding). Ends e m cws f c.in-Decided.outcome 0 a.places.now.words a.places.now.checks) (sym told ∙ finding_is m cws c.requires.examined)
    (ends_decided e m cws a.places.now.words a.places.now.checks told c.requires.words c.requires.checks) in
    record { outcome = ends.outcome; passes = ends.extra; words = ends.words; checks = ends.checks }

pub returns-in-Undecided : goal.returns-in-Undecided
unfolding outcome_of word_of word_in
returns-in-Undecided c =
    let a = c.args in
    let m = line_at a.memory.now a.line in
    let cws = a.catch_words.now in
    let e = evidence_of a.lines a.memory.now a.line cws in
    let made = c.diagnose.ensures in
    let ends =
    subst (λ (f : Finding). Ends e m cws f c.diagnose.result.outcome c.diagnose.result.passes c.diagnose.new.places.words c.diagnose.new.places.checks)
    (sym c.in-Undecided.is ∙ finding_is m cws c.requires.examined)
    (ends_diagnosed e m cws _ made.outcome made.passes made.words made.checks) in
    record { outcome = ends.outcome; passes = ends.extra; words = ends.words; checks = ends.checks }
