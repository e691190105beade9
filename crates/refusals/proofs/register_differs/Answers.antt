-- `refusals::register_differs` meets its contract. Assumes nothing.
use Rattle.std.proofs.Common.{◌≡◌, ◌≢◌, ℕ, Bool, true, false, not, ltb, eqb, List, length, get_or, refl, sym, ap, ◌∙◌, arith, rules, lt-ltb, eqb-true, ext_get_or, nat_eq}
use Rattle.std.proofs.lemmas.Bool.{not-false}
use lib.Pointwise.{pointwise}
use Rattle.std.specs.Cmp.Lexicographic.{same_text, other_text}
use Rattle.cells.specs.Chips.{count}
use Rattle.cells.specs.ChipLaws.{count_none, count_zero}
use Rattle.refusals.specs.Refusals.{register_differs}
use Rattle.refusals.specs.RefusalLaws.{equal}
use Rattle.refusals.proofs.register_differs.Goals as goal

-- lists of nine differ where one of the nine places does
differ : (xs ys : List ℕ) → length xs ≡ 9 → length ys ≡ 9
    → not (pointwise nat_eq xs ys) ≡ ltb 0 (count (λ k. not (eqb (get_or xs k 0) (get_or ys k 0))) 9)
differ xs ys nine nine' = pick (pointwise nat_eq xs ys) refl
  where
    other : ℕ → Bool
    other k = not (eqb (get_or xs k 0) (get_or ys k 0))

    pick : (b : Bool) → pointwise nat_eq xs ys ≡ b → not b ≡ ltb 0 (count other 9)
    pick true e =
        let same : xs ≡ ys = same_text xs ys (sym e) in
        sym (ap (ltb 0) (count_zero other 9 (λ k l. equal (get_or xs k 0) (get_or ys k 0) (ap (λ (s : List ℕ). get_or s k 0) same))))
    pick false e =
        let none : count other 9 ≢ 0 =
        λ z. other_text xs ys (sym e)
        (ext_get_or 0 xs ys (nine ∙ sym nine') (λ k l. eqb-true _ _ (not-false _ (count_none other 9 z k (omega (arith, nine)))))) in
        sym (lt-ltb 0 (count other 9) (omega arith))

pub returns : goal.returns
unfolding register_differs
returns c = let r = c.args.rank in c.ne.ensures ∙ differ r.registers r.catch_words (search rules) (search rules)
