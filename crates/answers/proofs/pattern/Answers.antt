-- `answers::pattern` meets its contract. Assumes nothing.
use mathlib.Core.Path.{ap, ◌∙◌}
use mathlib.Core.List.{List}
use Prim.Native.Nat.{ℕ}
use lib.ListN.{set}
use Rattle.words.specs.Bytes.{bytes_of}
use Rattle.answers.specs.Answers.{pattern_of}
use Rattle.answers.proofs.pattern.Goals as goal

pub returns : goal.returns
unfolding pattern_of bytes_of
returns c =
    c.store_byte.ensures
    ∙ ap (λ (m : List ℕ). set m 8 c.args.check) c.store_word.ensures
