-- A call's tests, one after the other: the first that refuses gives the number, and else those after it do.
-- Assumes nothing.
use Rattle.std.specs.Prelude.{◌≡◌, ◌≢◌, List, ◌∷◌, ◌++◌}
use Rattle.std.proofs.Common.{ℕ, sym, ap, ◌∙◌, suc-ne-zero}
use Rattle.refusals.specs.declared.Refusal.{Refusal}
use Rattle.refusals.specs.declared.Refusal.TheVariants.{Line, Buffer, Chip, Pattern, CatchWords, BootMemory, NotReady, Memory, Register, Task}
use Rattle.refusals.specs.Numbers.{number_of}
use Rattle.refusals.specs.Refusals.{first_of}
use Rattle.refusals.specs.RefusalLaws.{first_came, first_of_both}

-- no refusal has the number 0
pub number_of-ne-zero : (e : Refusal) → number_of e ≢ 0
number_of-ne-zero Line = suc-ne-zero _
number_of-ne-zero Buffer = suc-ne-zero _
number_of-ne-zero Chip = suc-ne-zero _
number_of-ne-zero Pattern = suc-ne-zero _
number_of-ne-zero CatchWords = suc-ne-zero _
number_of-ne-zero BootMemory = suc-ne-zero _
number_of-ne-zero NotReady = suc-ne-zero _
number_of-ne-zero Memory = suc-ne-zero _
number_of-ne-zero Register = suc-ne-zero _
number_of-ne-zero Task = suc-ne-zero _

-- one test refuses: those after it are not looked at
pub refused_one : (n : ℕ) (ns : List ℕ) (e : Refusal) → number_of e ≡ n → first_of (n ∷ ns) ≡ number_of e
refused_one n ns e h = ap (λ (k : ℕ). first_of (k ∷ ns)) (sym h) ∙ first_came (number_of e) ns (number_of-ne-zero e)

-- it does not: those after it give the number
pub passed_one : (n : ℕ) (ns : List ℕ) → 0 ≡ n → first_of (n ∷ ns) ≡ first_of ns
passed_one n ns h = ap (λ (k : ℕ). first_of (k ∷ ns)) (sym h)

-- the same of several tests
pub refused_first : (xs ys : List ℕ) (e : Refusal) → number_of e ≡ first_of xs → first_of (xs ++ ys) ≡ number_of e
refused_first xs ys e h = sym (first_of_both xs ys) ∙ refused_one (first_of xs) ys e h

pub passed_first : (xs ys : List ℕ) → 0 ≡ first_of xs → first_of (xs ++ ys) ≡ first_of ys
passed_first xs ys h = sym (first_of_both xs ys) ∙ passed_one (first_of xs) ys h
