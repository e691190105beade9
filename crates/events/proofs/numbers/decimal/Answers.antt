use Rattle.std.proofs.Common.{arith}
use Rattle.events.specs.NumberLaws.{numeral_small}
use Rattle.events.proofs.numbers.decimal.Goals as goal

pub overflow_cast-result : goal.overflow_cast-result
overflow_cast-result c =
    record { fits = numeral_small c.args.field.now (omega arith) c.in_ok-value.ensures }
