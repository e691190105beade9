use Rattle.events.specs.NumberLaws.{Reached}
use Rattle.events.proofs.numbers.numeral.Given as goal

abbrev pub invariant-loop-byte : goal.invariant-loop-byte
invariant-loop-byte l = Reached l.base l.field l.value l.byte-index
