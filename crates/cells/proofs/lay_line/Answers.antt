-- `cells::lay_line` meets its contract. Assumes nothing.
use Rattle.std.proofs.Common.{◌≡◌, refl, sym, ap, ap₂, ◌∙◌, List, ℕ, ◌*◌, arith, rules, bit_xor, lit<, le_antisymm}
use Rattle.std.proofs.lemmas.List.Edits.{sets}
use Rattle.code.specs.Code.{check_of}
use Rattle.code.proofs.CodeLaws.{check_lt}
use Rattle.cells.specs.Chips.{xor_all}
use Rattle.cells.specs.Checks.{word_every, in_checks, xor_lanes}
use Rattle.cells.specs.CheckLaws.{checks_at, across_xor, checks_xor}
use Rattle.cells.specs.Cells.{codeword, with_chip, eight_at, line_word, stored}
use Rattle.cells.specs.CellLaws.{length_codeword, line_word_eight}
use Rattle.cells.proofs.Loops.{blocks_none, blocks_store, blocks_all, xor_more, upto_all}
use Rattle.cells.proofs.lay_line.Goals as goal
use Rattle.cells.proofs.lay_line.Invariants.{chip}

pub loop-k-init : goal.loop-k-init
unfolding xor_all
loop-k-init c = (blocks_none _ _ _ _, record { within = omega arith; done = refl })

-- the check byte taken out of the lanes is the word's
pub lay_checked-requires : goal.lay_checked-requires
unfolding word_every
lay_checked-requires c =
    let d : List ℕ = c.args.bytes.now in
    let checks = c.of_eight-eight.ensures in
    let own : (j : ℕ) → ℕ = λ j. check_of (word_every 8 d j) in record {
      chip = omega (arith, c.loop-k-test.true);
      check = c.of_word.ensures ∙ ap₂ (λ (e o : ℕ). in_checks e o c.loop-k.k) checks.even checks.odd
          ∙ checks_at own (λ j. check_lt (word_every 8 d j)) c.loop-k.k c.loop-k-test.true
          ∙ ap check_of (sym c.load_word-word.ensures);
    }

-- the check byte made across the lanes is the parity's
pub lay_checked-requires-2 : goal.lay_checked-requires-2
unfolding word_every eight_at
lay_checked-requires-2 c =
    let d : List ℕ = c.args.bytes.now in
    let checks = c.of_eight-eight.ensures in
    let parity = upto_all c.loop-k.invariant.1 c.loop-k-test.false in record {
      chip = lit< tt;
      check = c.across.ensures ∙ ap₂ (λ (e o : ℕ). xor_lanes (bit_xor e o)) checks.even checks.odd
          ∙ across_xor (λ j. check_of (word_every 8 d j)) (λ j. check_lt (word_every 8 d j))
          ∙ checks_xor (word_every 8 d) 8
          ∙ ap check_of (sym parity);
    }

pub loop-k-preserved : goal.loop-k-preserved
unfolding with_chip eight_at
loop-k-preserved c =
    let l = c.loop-k in
    let taken = c.loop-k-test.true in
    let word = c.load_word-word.ensures in
    let chip_k = ap codeword (word ∙ sym (line_word_eight c.args.bytes.now (search rules) l.k taken)) in (
      blocks_store (chip c.args.bytes.now) 9 9 c.args.line.now (λ j i. length_codeword _) (omega arith) l.invariant.0 (omega arith)
          (c.lay_checked.ensures ∙ ap (sets l.line (9 * l.k)) chip_k),
      xor_more (eight_at c.args.bytes.now) l.invariant.1 taken word,
    )

pub returns : goal.returns
unfolding stored with_chip line_word
returns c =
    let l = c.loop-k in
    let e : l.k ≡ 8 = le_antisymm l.invariant.1.within c.loop-k-test.false in
    let parity : l.parity ≡ line_word c.args.bytes.now l.k =
    upto_all l.invariant.1 c.loop-k-test.false ∙ ap (line_word c.args.bytes.now) (sym e) in
    let last = blocks_store (chip c.args.bytes.now) 9 9 c.args.line.now (λ j i. length_codeword _) (omega arith) l.invariant.0 (omega arith)
    (c.lay_checked-2.ensures ∙ ap₂ (λ (i w : ℕ). sets l.line (9 * i) (codeword w)) (sym e) parity) in
    blocks_all (chip c.args.bytes.now) 9 9 c.args.line.now (λ j i. length_codeword _) (omega arith) last (omega arith) (search rules)
