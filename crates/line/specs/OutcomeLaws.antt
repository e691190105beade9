-- What holds of an outcome by its three cases.
-- Assumes nothing.
use Rattle.std.specs.Prelude.{◌≡◌, refl, ◌≢◌}
use Rattle.line.specs.Visit.{if_answered}
use Rattle.line.specs.declared.Outcome.{Outcome}
use Rattle.line.specs.declared.Outcome.TheVariants.{Answered, Unlocated, Uncorrectable}

-- a statement about what is chosen by an outcome, from both
pub either_answered : {A : Type 0} (P : A → Type 0) (o : Outcome) {a b : A} → P a → P b → P (if_answered o a b)
either_answered P Answered p q = p
either_answered P Unlocated p q = q
either_answered P Uncorrectable p q = q

-- what is chosen where the line is not answered
pub not_answered : {A : Type 0} (o : Outcome) (a b : A) → o ≢ Answered → if_answered o a b ≡ b
not_answered Answered a b h = absurd (h refl)
not_answered Unlocated a b h = refl
not_answered Uncorrectable a b h = refl
