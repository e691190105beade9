-- `words::load_little` meets its contract. Assumes nothing.
use mathlib.Core.Path.{sym, ap, ◌∙◌}
use mathlib.Core.List.{List, reverse}
use Prim.Native.Nat.{ℕ}
use Rattle.words.specs.Bytes.{number_of}
use Rattle.words.proofs.Words.{eight_bytes}
use Rattle.words.proofs.load_little.Goals as goal

pub returns : goal.returns
returns c =
    c.number.ensures ∙ ap (λ (l : List ℕ). number_of (reverse l)) (sym (eight_bytes c.args.bytes.now c.args.at c.requires))
