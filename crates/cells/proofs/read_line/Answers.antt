-- `cells::read_line` meets its contract. Assumes nothing.
use Rattle.std.proofs.Common.{◌≡◌, ap, ◌∙◌, List, ℕ, ◌*◌, ◌<◌, arith, rules, length}
use Rattle.std.proofs.lemmas.List.Edits.{sets}
use Rattle.words.specs.Bytes.{bytes_of}
use Rattle.cells.specs.Cells.{word_at, line_of}
use Rattle.words.specs.ByteLaws.{length_bytes_from, bytes_bytes_from, bytes_of_number}
use Rattle.cells.proofs.Loops.{blocks_none, blocks_store, blocks_all}
use Rattle.cells.proofs.read_line.Goals as goal
use Rattle.cells.proofs.read_line.Invariants.{word}

long : (line : List ℕ) → length line ≡ 81 → (k : ℕ) → k < 8 → length (word line k) ≡ 8
long line e k l = length_bytes_from 8 (9 * k) line (omega arith)

pub loop-k-preserved : goal.loop-k-preserved
unfolding word_at
loop-k-preserved c =
    let l = c.loop-k in
    let m : List ℕ = c.args.line.now in
    let back = bytes_of_number (word m l.k) 8 (bytes_bytes_from 8 (9 * l.k) m (search rules)) (long m (search rules) l.k c.loop-k-test.true) in
    blocks_store (word m) 8 8 c.args.buffer.now (long m (search rules)) (omega arith) l.invariant c.loop-k-test.true
    (c.store_word.ensures ∙ ap (λ (v : ℕ). sets l.buffer (8 * l.k) (bytes_of 8 v)) c.word_at.ensures ∙ ap (sets l.buffer (8 * l.k)) back)

pub returns : goal.returns
unfolding line_of
returns c =
    blocks_all (word c.args.line.now) 8 8 c.args.buffer.now (long c.args.line.now (search rules)) (omega arith) c.loop-k.invariant c.loop-k-test.false (search rules)

pub loop-k-init : goal.loop-k-init
loop-k-init c = blocks_none _ _ _ _
