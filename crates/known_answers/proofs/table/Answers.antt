-- `known_answers::table` meets its contract: the cases are tested together, by one test that antt computes.
-- Assumes nothing.
use mathlib.Core.Path.{◌≡◌, refl}
use mathlib.Core.Bool.{Bool}
use mathlib.Core.List.{List, map}
use Prim.Native.Nat.{ℕ}
use lib.Dec.{T, eqb, eqb→eq}
use Rattle.code.specs.Code.{times_x, remainder_in, remainder, syndrome_of, check_of, syndrome_at, position_from, position_of, bit_at, mended, mended_word}
use Rattle.code.specs.Lists.{Every}
use Rattle.code.specs.TestLaws.{all, all_every}
use Rattle.known_answers.specs.Marked.{Case, cases, columns, says, Marked}
use Rattle.known_answers.proofs.table.Goals as goal

test : Case → Bool
test c = all (λ s. eqb s.0 s.1) (says c)

holds : (c : Case) → T (test c) → Every (λ s. s.0 ≡ s.1) (says c)
unfolding test
holds c t = all_every (λ s. s.0 ≡ s.1) (λ s. eqb s.0 s.1) (λ s. eqb→eq s.0 s.1) (says c) t

all_hold : {rows : List (List ℕ)} → rows ≡ map columns cases → T (all test cases) → Marked rows
all_hold e t = record { these = e; hold = all_every (λ c. Every (λ s. s.0 ≡ s.1) (says c)) test holds cases t }

pub returns-clause-cases : goal.returns-clause-cases
unfolding cases test says check_of mended_word mended bit_at position_of position_from syndrome_at syndrome_of remainder remainder_in times_x
returns-clause-cases c = all_hold refl tt
