use Rattle.std.proofs.Common.{arith}
use Rattle.std.proofs.lemmas.Bool.Decides.{nat_tests}
use Rattle.events.specs.Events.{letter_event}
use Rattle.events.specs.FieldLaws.{tail_part}
use Rattle.events.specs.EventLaws.{event_at}
use Rattle.events.proofs.event_of.Goals as goal

pub returns-in-119 : goal.returns-in-119
unfolding letter_event
returns-in-119 c = rw (event_at c.args.line.now c.in-119.len_at_least, c.write_event.ensures, tail_part c.args.line.now 2) (grind (arith, nat_tests))

pub returns-in-114 : goal.returns-in-114
unfolding letter_event
returns-in-114 c = rw (event_at c.args.line.now c.in-114.len_at_least, c.read_event.ensures, tail_part c.args.line.now 2) (grind (arith, nat_tests))

pub returns-in-102 : goal.returns-in-102
unfolding letter_event
returns-in-102 c = rw (event_at c.args.line.now c.in-102.len_at_least, c.fault_event.ensures, tail_part c.args.line.now 2) (grind (arith, nat_tests))
