-- What steps 3 to 5 leave for step 6 to write back: a word and a check byte at each flagged chip's place. Not of document 01.
-- Definitions alone.
use Rattle.std.specs.Prelude.{◌≡◌, Bool, true, false, List, ℕ, get_or}
use Rattle.code.specs.Code.{check_of}
use Rattle.cells.specs.Chips.{AtPlaces}
use Rattle.cells.specs.Cells.{chips}
use Rattle.line.specs.Visit.{if_answered}
use Rattle.line.specs.declared.Outcome.{Outcome}
use Rattle.line.specs.declared.Outcome.TheVariants.{Answered}
use Rattle.line.specs.declared.Finding.{Finding}
use Rattle.line.specs.declared.Finding.TheVariants.{Decided, Undecided}

-- the check byte at the place of each chip that passes p is that of the word there
abbrev pub ChecksAt : (ℕ → Bool) → List ℕ → List ℕ → Type 0
ChecksAt p words checks = AtPlaces p (λ k. check_of (get_or words k 0)) checks chips

-- so it is where the line is answered
abbrev pub ChecksIfAnswered : Outcome → (ℕ → Bool) → List ℕ → List ℕ → Type 0
ChecksIfAnswered o p words checks = o ≡ Answered → ChecksAt p words checks

-- the line is not refused by its own bytes
unfoldable pub may_answer : Finding → Bool
may_answer (Decided o) = if_answered o true false
may_answer (Undecided x) = true

-- so it is unless the line is refused by its own bytes
abbrev pub ChecksUnlessRefused : Finding → (ℕ → Bool) → List ℕ → List ℕ → Type 0
ChecksUnlessRefused f p words checks = may_answer f ≡ true → ChecksAt p words checks
