use Rattle.std.proofs.Common.{◌≡◌, ℕ, ◌++◌, List, length}
use Rattle.script.specs.Sessions.{Follows}
use Rattle.bench.proofs.answer_part.Given as goal

-- the bytes before the rest were followed
abbrev pub invariant-loop-rest : goal.invariant-loop-rest
invariant-loop-rest g l =
    record {
      taken : List ℕ;
      parts : l.bytes ≡ taken ++ l.rest;
      text : List ℕ;
      followed : Follows l.fn.start l.progress taken text l.initial.memory l.memory;
    }

abbrev pub decreases-loop-rest : goal.decreases-loop-rest
decreases-loop-rest g l = length l.rest
