-- Document 01, "Bench examples", program `bench`: what a script has come to after some bytes of its input.
-- Definitions alone; what holds of them is in `SessionLaws`.
use Rattle.std.specs.Prelude.{ℕ, ◌≡◌, cond, List, [], ◌∷◌, ◌++◌, eqb, take}
use Rattle.record.specs.declared.Rank.{Rank}
use Rattle.events.specs.Fields.{line_feed}
use Rattle.texts.specs.Outputs.{Prints}
use Rattle.texts.specs.declared.Output.{Output}
use Rattle.answers.specs.Answers.{Reply, reply_to}
use Rattle.script.specs.declared.sessions.Progress.{Progress}

-- the record, the lent memory, the bytes of the line that has begun, and what was printed
pub record Session : Type 0 where
  pub rank : Rank
  pub memory : List ℕ
  pub begun : List ℕ
  pub printed : List ℕ

-- the line that has begun goes on with bytes
unfoldable pub goes_on : Session → List ℕ → Session
goes_on g bs = record { rank = g.rank; memory = g.memory; begun = g.begun ++ bs; printed = g.printed }

-- it ends, and is answered
unfoldable pub ends_by : Session → Reply → Session
ends_by g reply = record { rank = reply.rank; memory = reply.memory; begun = []; printed = g.printed ++ reply.text }

unfoldable pub ends : Session → Session
ends g = ends_by g (reply_to g.begun g.rank g.memory)

-- a line ends at byte 0Ah
unfoldable pub fed : Session → List ℕ → Session
fed g [] = g
fed g (b ∷ bs) = fed (cond (eqb b line_feed) (ends g) (goes_on g (b ∷ []))) bs

-- bytes after the last 0Ah, if there are any, are a line too
unfoldable pub finished_by : List ℕ → Session → Session
finished_by [] g = g
finished_by (b ∷ bs) g = ends g

unfoldable pub finished : Session → Session
finished g = finished_by g.begun g

-- a record and a memory, nothing begun and nothing printed
unfoldable pub start : Rank → List ℕ → Session
start r m = record { rank = r; memory = m; begun = []; printed = [] }

-- all that is printed for a whole input
unfoldable pub output_of : Rank → List ℕ → List ℕ → List ℕ
output_of r m s = (finished (fed (start r m) s)).printed

-- a run stands at a session: it has the record and the memory, and the first 41 bytes of the line that has begun
pub record Stands (g : Session) (p : Progress) (memory : List ℕ) : Type 0 where
  pub rank_is : p.rank ≡ g.rank
  pub memory_is : memory ≡ g.memory
  pub begun_is : p.line.bytes ≡ take 41 g.begun

-- a run goes from p to r over bytes s and prints t: whatever session it stood at, it stands at that one fed with s, which has printed t
-- more. m is the lent memory, and m' is the memory after it.
pub record Follows (p r : Progress) (s t m m' : List ℕ) : Type 0 where
  pub stands : (g : Session) → Stands g p m → Stands (fed g s) r m'
  pub prints : (g : Session) → Stands g p m → (fed g s).printed ≡ g.printed ++ t

-- a run goes on over bytes of the input, but for the rest of them, from one progress p to another r, and lays in the output what it prints. o
-- is the output, o' the output after it.
pub record Advance (p r : Progress) (bytes rest m : List ℕ) (o : Output) (m' : List ℕ) (o' : Output) : Type 0 where
  pub taken : List ℕ
  pub parts : bytes ≡ taken ++ rest
  pub text : List ℕ
  pub laid : Prints o text o'
  pub follows : Follows p r taken text m m'

-- a run ends: whatever session it stood at, it leaves the memory of that one finished and lays in the output what that one has printed more
pub record Finish (p : Progress) (m : List ℕ) (o : Output) (m' : List ℕ) (o' : Output) : Type 0 where
  pub text : List ℕ
  pub laid : Prints o text o'
  pub memory_is : (g : Session) → Stands g p m → m' ≡ (finished g).memory
  pub prints : (g : Session) → Stands g p m → (finished g).printed ≡ g.printed ++ text
