use Rattle.std.proofs.Common.{ℕ, get_or, refl, ◌∙◌, arith}
use Rattle.events.specs.Numbers.{digit_of}
use Rattle.events.specs.NumberLaws.{reached_none, reached_more, reached_stop, reached_fits, reached_all, digit_found, no_digit_found}
use Rattle.events.proofs.numbers.numeral.Goals as goal

pub loop-byte-init : goal.loop-byte-init
loop-byte-init c = reached_none _ _

pub returns-in_err-digit : goal.returns-in_err-digit
returns-in_err-digit c =
    let x : ℕ = digit_of (get_or c.args.field.now c.loop-byte.byte-index 0) in
    c.from_residual.ensures ∙ reached_stop {d = x} c.loop-byte.invariant c.loop-byte-test.true refl (no_digit_found x c.args.base c.in_err-digit.ensures)

pub overflow_add-value : goal.overflow_add-value
overflow_add-value c =
    let d = digit_found _ c.args.base c.in_ok-digit.ensures in
    record { fits = reached_fits c.loop-byte.invariant c.loop-byte-test.true d.0 d.1 c.requires.1 c.requires.0 }

pub overflow_mul-value : goal.overflow_mul-value
overflow_mul-value c = omega (arith, (overflow_add-value c).fits)

pub loop-byte-preserved : goal.loop-byte-preserved
loop-byte-preserved c =
    let d = digit_found _ c.args.base c.in_ok-digit.ensures in
    reached_more c.loop-byte.invariant c.loop-byte-test.true d.0 d.1 c.requires.1

pub returns : goal.returns
returns c = reached_all c.loop-byte.invariant (omega arith)
