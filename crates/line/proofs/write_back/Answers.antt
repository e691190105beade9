-- `line::write_back` meets its contract. Assumes nothing.
use mathlib.Core.Path.{◌≡◌, refl, sym, ap, ap₂, ◌∙◌}
use mathlib.Core.Bool.{Bool, true, false, cond}
use mathlib.Core.List.{List}
use Prim.Native.Nat.{ℕ, ◌<◌}
use lib.Dec.{eqb}
use lib.ListN.{length, get_or}
use borrow.Author.Tests.{eqb-true, eqb-false}
use Rattle.cells.specs.Chips.{joined, in_mask}
use Rattle.cells.specs.Cells.{chip_at, codeword, with_chip}
use Rattle.cells.specs.CellLaws.{length_chip, length_codeword, length_joined, length_with_chip, chip_laid, chip_other, chip_joined, same_chips}
use Rattle.cells.specs.MaskLaws.{TakenOff, no_member}
use Rattle.cells.proofs.Loops.{pending_turn, pending_next, rest_own, rest_other}
use Rattle.line.proofs.write_back.Goals as goal
use Rattle.line.proofs.write_back.Goals.{In-Some}
use Rattle.line.proofs.write_back.Invariants.{chip, Laid}

nine : (b : Bool) (w : ℕ) (bs : List ℕ) → length bs ≡ 9 → length (cond b (codeword w) bs) ≡ 9
nine true w bs e = length_codeword w
nine false w bs e = e

module _ (line words : List ℕ) (flagged : ℕ) (e : length line ≡ 81) where
  laid_more : {rest k t : ℕ} {s u : List ℕ} → Laid line words flagged rest s → TakenOff rest k t → u ≡ with_chip s k (codeword (get_or words k 0))
      → Laid line words flagged t u
  laid_more {rest} {k} {t} {s} {u} h l q =
      record {
        pending = pending_next h.pending l;
        size = ap length q ∙ length_with_chip s _ k ∙ h.size;
        done = λ j b. ap (λ (x : List ℕ). chip_at x j) q ∙ pick j b (eqb j k) refl;
      }
    where
      bs : List ℕ
      bs = codeword (get_or words k 0)

      pick : (j : ℕ) → j < 9 → (b : Bool) → eqb j k ≡ b → chip_at (with_chip s k bs) j ≡ cond (in_mask t j) (chip_at line j) (chip line flagged words j)
      pick j b true i =
          let own : j ≡ k = eqb-true j k i in
          let flag : in_mask flagged j ≡ true = ap (in_mask flagged) own ∙ h.pending.chips k l.below l.member in
          ap (chip_at (with_chip s k bs)) own ∙ chip_laid s bs k h.size (length_codeword _) l.below ∙ ap (λ (x : ℕ). codeword (get_or words x 0)) (sym own)
          ∙ sym (ap₂ (λ (c d : Bool). cond c (chip_at line j) (cond d (codeword (get_or words j 0)) (chip_at line j))) (ap (in_mask t) own ∙ rest_own l) flag)
      pick j b false i =
          chip_other s bs k h.size (length_codeword _) l.below j b (eqb-false j k i) ∙ h.done j b
          ∙ ap (λ (c : Bool). cond c (chip_at line j) (chip line flagged words j)) (sym (rest_other l j b (eqb-false j k i)))

  laid_all : {rest : ℕ} {s : List ℕ} → Laid line words flagged rest s → rest ≡ 0 → s ≡ joined (chip line flagged words) 9
  laid_all {rest} {s} h z =
      let long : (k : ℕ) → k < 9 → length (chip line flagged words k) ≡ 9 = λ k l. nine (in_mask flagged k) (get_or words k 0) (chip_at line k) (length_chip line k e l) in
      same_chips s (joined (chip line flagged words) 9) h.size (length_joined (chip line flagged words) 9 9 long)
      (λ k l.
      h.done k l ∙ ap (λ (c : Bool). cond c (chip_at line k) (chip line flagged words k)) (ap (λ (x : ℕ). in_mask x k) z ∙ no_member k l)
      ∙ sym (chip_joined (chip line flagged words) long k l))

-- the chip that has its turn
inside : (c : In-Some) → c.in-Some.k < 9
inside c = (pending_turn c.loop-k.invariant.pending c.in-Some.ensures.steps).below

pub bounds-places-k : goal.bounds-places-k
bounds-places-k c = inside (goal.at.bounds-places-k c).In-Some

pub bounds-places-k-in-loop-k : goal.bounds-places-k-in-loop-k
bounds-places-k-in-loop-k c = inside (goal.at.bounds-places-k-in-loop-k c).In-Some

pub lay_checked-requires : goal.lay_checked-requires
lay_checked-requires c =
    let pending = c.loop-k.invariant.pending in
    let turn = pending_turn pending c.in-Some.ensures.steps in
    record { chip = turn.below; check = c.requires.checks.at _ turn.below (pending.chips _ turn.below turn.member) }

pub loop-k-preserved : goal.loop-k-preserved
loop-k-preserved c =
    let laid = c.loop-k.invariant in
    laid_more c.args.line.now c.args.places.now.words c.args.flagged c.told-line laid (pending_turn laid.pending c.in-Some.ensures.steps) c.lay_checked.ensures

pub returns : goal.returns
returns c = laid_all c.args.line.now c.args.places.now.words c.args.flagged c.told-line c.loop-k.invariant c.in-None.ensures.steps.0
