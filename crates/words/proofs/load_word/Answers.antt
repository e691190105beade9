-- `words::load_word` meets its contract. Assumes nothing.
use Rattle.words.proofs.Words.{held, loads_high}
use Rattle.words.proofs.load_word.Goals as goal

pub returns : goal.returns
returns c =
    let m = c.args.bytes.now in
    let taken = held 8 _ c.try_into.result c.try_into.ensures.1 c.unwrap.ensures in
    loads_high m c.args.at c.requires (λ i. (c.type_inv.bytes i).fits) taken c.from_be_bytes.type_inv c.from_be_bytes.ensures
