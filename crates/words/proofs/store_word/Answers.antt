-- `words::store_word` meets its contract. Assumes nothing.
use Rattle.std.proofs.Common.{◌∙◌}
use Rattle.words.specs.ByteLaws.{length_bytes_of}
use Rattle.words.proofs.Words.{high_first, stores}
use Rattle.words.proofs.store_word.Goals as goal

pub returns : goal.returns
returns c =
    let x = c.args in
    stores x.bytes.now x.at c.requires (length_bytes_of 8 x.word)
    (c.copy_from_slice.ensures.after ∙ c.to_be_bytes.ensures ∙ high_first x.word)
