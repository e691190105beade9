-- What a run of program `bench` leaves in the lent memory where it ends, or where a read or a write fails. p is the progress before it,
-- m is the memory then, and m' is the memory after it.
-- Definitions alone.
use Rattle.std.specs.Prelude.{ℕ, ◌≡◌, List, take}
use Rattle.std.proofs.Common.{◌⊎◌}
use Rattle.script.specs.Sessions.{Session, Stands, fed, finished}
use Rattle.script.specs.declared.sessions.Progress.{Progress}

-- whatever session the run stood at, the memory is that of this one fed with some of the bytes s, from the first on
abbrev pub Fed : Progress → List ℕ → List ℕ → List ℕ → Type 0
Fed p s m m' = (n : ℕ) × ((g : Session) → Stands g p m → m' ≡ (fed g (take n s)).memory)

-- whatever session it stood at, the memory is that of this one finished
abbrev pub Finishes : Progress → List ℕ → List ℕ → Type 0
Finishes p m m' = (g : Session) → Stands g p m → m' ≡ (finished g).memory

-- one or the other
abbrev pub Stops : Progress → List ℕ → List ℕ → List ℕ → Type 0
Stops p s m m' = Fed p s m m' ⊎ Finishes p m m'
