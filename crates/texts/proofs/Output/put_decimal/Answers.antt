use Rattle.std.proofs.Common.{ap, ◌∙◌, List, ℕ, ◌∷◌, arith}
use Rattle.io.specs.Digits.{last_digits}
use Rattle.events.specs.Fields.{space}
use Rattle.texts.specs.Texts.{decimal_text}
use Rattle.texts.specs.TextLaws.{prints_as, decimal_most, decimal_count}
use Rattle.texts.proofs.Output.put_decimal.Goals as goal

pub put_field-requires : goal.put_field-requires
put_field-requires c =
    let d = c.decimal-count in
    omega (arith, c.requires.0, d.ensures.in_bounds.1, decimal_most c.args.n d.result d.ensures.len c.requires.1)

pub returns-clause-laid : goal.returns-clause-laid
unfolding decimal_text
returns-clause-laid c =
    let d = c.decimal-count in
    let count = decimal_count c.args.n d.result d.ensures.len c.requires.1 in
    prints_as (ap (λ (t : List ℕ). space ∷ t) (d.ensures.digits ∙ ap (λ (k : ℕ). last_digits 10 k c.args.n) count)) c.put_field.ensures

pub returns-clause-most : goal.returns-clause-most
returns-clause-most c =
    let d = c.decimal-count in
    omega (arith, c.put_field.ensures.laid.behind, d.ensures.in_bounds.1, decimal_most c.args.n d.result d.ensures.len c.requires.1)
