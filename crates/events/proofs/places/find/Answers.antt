use Rattle.std.proofs.Common.{rules, tests, eqb, ℕ}
use Rattle.std.proofs.lemmas.Iterator.{YieldsList-from_slice}
use Rattle.std.proofs.lemmas.Iterator.Search.{position_from_yields_List}
use Rattle.events.specs.FieldLaws.{place_found}
use Rattle.events.proofs.places.find.Goals as goal

pub returns : goal.returns
returns c =
    place_found c.args.byte c.args.bytes.now
    (position_from_yields_List (λ (b : ℕ). eqb b c.args.byte) _ _ c.position.result c.position.ensures.ran
    (YieldsList-from_slice c.args.bytes.now (cc)) (λ x b q k. search (rules, tests)))
