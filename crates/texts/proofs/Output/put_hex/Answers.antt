use Rattle.std.proofs.Common.{ap, ◌∙◌, List, ℕ, ◌∷◌, arith}
use Rattle.io.specs.Digits.{last_digits}
use Rattle.events.specs.Fields.{space}
use Rattle.texts.specs.Texts.{hex_text}
use Rattle.texts.specs.TextLaws.{prints_as, hex_count}
use Rattle.texts.proofs.Output.put_hex.Goals as goal

pub put_field-requires : goal.put_field-requires
put_field-requires c =
    let d = c.hex-count in
    omega (arith, c.requires.room, d.ensures.in_bounds.1, hex_count c.args.value c.args.width d.result d.ensures.len c.requires.small)

pub returns-clause-laid : goal.returns-clause-laid
unfolding hex_text
returns-clause-laid c =
    let d = c.hex-count in
    let count = hex_count c.args.value c.args.width d.result d.ensures.len c.requires.small in
    prints_as (ap (λ (t : List ℕ). space ∷ t) (d.ensures.digits ∙ ap (λ (k : ℕ). last_digits 16 k c.args.value) count)) c.put_field.ensures

pub returns-clause-most : goal.returns-clause-most
returns-clause-most c =
    let d = c.hex-count in
    let count = hex_count c.args.value c.args.width d.result d.ensures.len c.requires.small in
    omega (arith, c.put_field.ensures.laid.behind, d.ensures.in_bounds.1, count)
