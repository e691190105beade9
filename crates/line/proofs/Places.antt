-- A word and its check byte, put at a chip's place. Assumes nothing.
use mathlib.Core.Path.{◌≡◌, refl, sym, ap, ◌∙◌}
use mathlib.Core.Bool.{Bool, true, false}
use mathlib.Core.List.{List}
use Prim.Native.Nat.{ℕ, ◌<◌}
use lib.Dec.{eqb}
use lib.ListN.{get_or, set}
use lib.Seq.{get_or-set_other}
use borrow.Author.Tests.{eqb-true, eqb-false}
use Rattle.code.specs.Code.{check_of}
use Rattle.cells.specs.Chips.{AtPlaces}

-- v is put at chip k's place, and stands there
module _ (p : ℕ → Bool) (ws : List ℕ) {vs : List ℕ} {k v : ℕ} (ew : vs ≡ set ws k v) (own : get_or vs k 0 ≡ v) where
  -- what stands at another chip's place
  other : (j : ℕ) → (j ≡ k → ⊥) → get_or vs j 0 ≡ get_or ws j 0
  other j ne = ap (λ (xs : List ℕ). get_or xs j 0) ew ∙ get_or-set_other ws k j v 0 ne

  pub placed_set : (f : ℕ → ℕ) → v ≡ f k → ((j : ℕ) → j < 9 → p j ≡ true → (j ≡ k → ⊥) → get_or ws j 0 ≡ f j) → AtPlaces p f vs 9
  placed_set f e o = record { at = λ j l t. pick j l t (eqb j k) refl }
    where
      pick : (j : ℕ) → j < 9 → p j ≡ true → (b : Bool) → eqb j k ≡ b → get_or vs j 0 ≡ f j
      pick j l t true q = let i : j ≡ k = eqb-true j k q in ap (λ (x : ℕ). get_or vs x 0) i ∙ own ∙ e ∙ ap f (sym i)
      pick j l t false q = other j (eqb-false j k q) ∙ o j l t (eqb-false j k q)

  -- and its check byte
  pub checked_set : (cs : List ℕ) {ds : List ℕ} {c : ℕ} → ds ≡ set cs k c → get_or ds k 0 ≡ c → c ≡ check_of v
      → ((j : ℕ) → j < 9 → p j ≡ true → (j ≡ k → ⊥) → get_or cs j 0 ≡ check_of (get_or ws j 0)) → AtPlaces p (λ j. check_of (get_or vs j 0)) ds 9
  checked_set cs {ds} {c} ec there e o = record { at = λ j l t. pick j l t (eqb j k) refl }
    where
      pick : (j : ℕ) → j < 9 → p j ≡ true → (b : Bool) → eqb j k ≡ b → get_or ds j 0 ≡ check_of (get_or vs j 0)
      pick j l t true q =
          let i : j ≡ k = eqb-true j k q in
          ap (λ (x : ℕ). get_or ds x 0) i ∙ there ∙ e ∙ ap check_of (sym own) ∙ ap (λ (x : ℕ). check_of (get_or vs x 0)) (sym i)
      pick j l t false q =
          let ne : j ≡ k → ⊥ = eqb-false j k q in
          ap (λ (xs : List ℕ). get_or xs j 0) ec ∙ get_or-set_other cs k j c 0 ne ∙ o j l t ne ∙ ap check_of (sym (other j ne))
