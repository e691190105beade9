-- `cells::xor_into` meets its contract. Assumes nothing.
use Rattle.std.proofs.Common.{◌≡◌, refl, ap, ◌∙◌, List, ℕ, ◌+◌, ◌*◌, zero-le, arith, bit_xor, get_or, set, length-set, take_all}
use Rattle.std.proofs.lemmas.List.Edits.{sets}
use Rattle.cells.specs.Cells.{chip_at, with_chip}
use Rattle.words.specs.Bytes.{xor_bytes, bytes_from}
use Rattle.cells.proofs.Loops.{xored, xored_more}
use Rattle.cells.proofs.xor_into.Goals as goal

pub loop-i-init : goal.loop-i-init
unfolding bytes_from
loop-i-init c = (zero-le, refl, refl)

pub loop-i-preserved : goal.loop-i-preserved
loop-i-preserved c =
    let x = c.args in
    let l = c.loop-i in
    let at : ℕ = 9 * x.k in (
      omega arith,
      simp length-set l.invariant.1,
      ap (λ (r : List ℕ). set r (at + l.i) (bit_xor (get_or r (at + l.i) 0) (get_or x.pattern.now l.i 0))) l.invariant.2
          ∙ xored_more x.line.now x.pattern.now at l.i (omega arith) (omega arith),
    )

pub returns : goal.returns
unfolding with_chip chip_at
returns c =
    let x = c.args in
    let l = c.loop-i in
    let e : l.i ≡ 9 = omega arith in
    l.invariant.2
    ∙ ap (xored x.line.now (9 * x.k) x.pattern.now) e
    ∙ ap (λ (q : List ℕ). sets x.line.now (9 * x.k) (xor_bytes (bytes_from 9 (9 * x.k) x.line.now) q)) (take_all 9 x.pattern.now (omega arith))
