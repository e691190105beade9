-- `passes::syndromes::of_line` meets its contract. Assumes nothing.
use Rattle.std.proofs.Common.{ap₂, ◌∙◌, ℕ, bit_xor}
use Rattle.code.specs.Code.{cell, syndrome_of}
use Rattle.cells.specs.Cells.{word_at, cell_at}
use Rattle.cells.specs.Checks.{word_every}
use Rattle.words.specs.Bytes.{Bytes}
use Rattle.passes.specs.Syndromes.{syndromes_of}
use Rattle.passes.proofs.SyndromeLaws.{made_other}
use Rattle.passes.proofs.syndromes.of_line.Goals as goal

pub returns : goal.returns
unfolding syndromes_of word_at word_every cell_at
returns c =
    let asked = c.of_eight-asked.ensures in
    let held = c.held-held.ensures in
    let m = c.args.line.now in
    let bytes : Bytes m = c.fits-line in
    λ i.
    record {
      eight =
          record {
            even = (ap₂ bit_xor asked.even held.even ∙ made_other m bytes 0) i;
            odd = (ap₂ bit_xor asked.odd held.odd ∙ made_other m bytes 1) i;
          };
      last =
          (c.syndrome-last.ensures
          ∙ ap₂ (λ (w b : ℕ). syndrome_of (cell w b)) c.word_at.ensures c.check_at.ensures) i;
    }
