-- `cells::lay_checked` meets its contract. Assumes nothing.
use Rattle.std.proofs.Common.{◌≡◌, sym, ap, ap₂, ◌∙◌, List, [], ◌∷◌, ℕ, ◌+◌, ◌*◌, set}
use Rattle.std.proofs.lemmas.List.Edits.{sets}
use Rattle.code.specs.Code.{check_of}
use Rattle.cells.specs.Cells.{with_chip, codeword}
use Rattle.words.specs.Bytes.{bytes_of}
use Rattle.words.specs.ByteLaws.{length_bytes_of, sets_append}
use Rattle.cells.proofs.lay_checked.Goals as goal

pub returns : goal.returns
unfolding with_chip codeword
returns c =
    let x = c.args in
    let w : List ℕ = bytes_of 8 x.word in
    let stored : c.store_word.new.bytes ≡ sets x.line.now (9 * x.k) w = c.store_word.ensures in
    c.store_byte.ensures
    ∙ ap₂ (λ (l : List ℕ) (v : ℕ). set l (9 * x.k + 8) v) stored c.requires.check
    ∙ ap (λ (n : ℕ). sets (sets x.line.now (9 * x.k) w) (9 * x.k + n) (check_of x.word ∷ [])) (sym (length_bytes_of 8 x.word))
    ∙ sym (sets_append w (check_of x.word ∷ []) x.line.now (9 * x.k))
