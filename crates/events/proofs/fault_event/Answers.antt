use Rattle.events.specs.EventLaws.{fault_by, pattern_two, pattern_none}
use Rattle.events.specs.NumberLaws.{two_hex_small}
use Rattle.events.proofs.fault_event.Goals as goal

pub returns-in_err-line : goal.returns-in_err-line
returns-in_err-line c = rw (c.from_residual.ensures, fault_by c.args.rest.now, ← c.in_err-line.ensures)

pub returns-in_err-chip : goal.returns-in_err-chip
returns-in_err-chip c =
    rw (c.from_residual-in_err-chip.ensures, fault_by c.args.rest.now, ← c.in_ok-line.ensures, ← c.in_err-chip.ensures)

pub returns-then-pattern-ne18 : goal.returns-then-pattern-ne18
returns-then-pattern-ne18 c =
    let none = pattern_none c.in_ok-line.line c.in_ok-chip.chip c.in_ok-chip.pattern.now c.if-pattern-ne18.true in
    rw (fault_by c.args.rest.now, ← c.in_ok-line.ensures, ← c.in_ok-chip.ensures, none)

pub returns-in_err-word : goal.returns-in_err-word
returns-in_err-word c =
    let two = pattern_two c.in_ok-line.line c.in_ok-chip.chip c.in_ok-chip.pattern.now c.if-pattern-ne18.false c.split_at.ensures.front c.split_at.ensures.back in
    rw (c.from_residual-in_err-word.ensures, fault_by c.args.rest.now, ← c.in_ok-line.ensures, ← c.in_ok-chip.ensures, two, ← c.in_err-word.ensures)

pub returns-in_err-check : goal.returns-in_err-check
returns-in_err-check c =
    let two = pattern_two c.in_ok-line.line c.in_ok-chip.chip c.in_ok-chip.pattern.now c.if-pattern-ne18.false c.split_at.ensures.front c.split_at.ensures.back in
    rw (c.from_residual-in_err-check.ensures, fault_by c.args.rest.now, ← c.in_ok-line.ensures, ← c.in_ok-chip.ensures, two, ← c.in_ok-word.ensures, ← c.in_err-check.ensures)

pub overflow_cast-result : goal.overflow_cast-result
overflow_cast-result c = record { fits = two_hex_small c.split_at.result.1.now c.in_ok-check.ensures }

pub returns : goal.returns
returns c =
    let two = pattern_two c.in_ok-line.line c.in_ok-chip.chip c.in_ok-chip.pattern.now c.if-pattern-ne18.false c.split_at.ensures.front c.split_at.ensures.back in
    rw (fault_by c.args.rest.now, ← c.in_ok-line.ensures, ← c.in_ok-chip.ensures, two, ← c.in_ok-word.ensures, ← c.in_ok-check.ensures)
