-- Calls of the plain memory whose arguments are accepted, and the premise at each call.
-- Assumes nothing.
use mathlib.Core.Path.{◌≡◌, refl, ap}
use mathlib.Core.List.{List}
use Prim.Native.Nat.{ℕ, zero, suc, ◌<◌}
use lib.Dec.{eqb, ltb}
use lib.ListN.{length}
use borrow.Author.Tests.{lt-ltb, eq-eqb}
use Rattle.claims.specs.Lists.{write, read, renew, fault, done}
use Rattle.claims.specs.Plain.{Line, Plain, undamaged, with_plain_line, with_fault, plain_visit, unless, plain_refusal, plain_accepted, plain_by, plain_call}
use Rattle.claims.specs.Premises.{Premise, PremiseBy}
use Rattle.claims.specs.Corollaries.{RenewWordUnused}

-- the plain memory does not look at the word of a renew
pub renew_word_unused : RenewWordUnused
unfolding plain_call plain_by plain_accepted
renew_word_unused p k w v = by (plain_refusal p.lines (renew k w))
  where
    by : (n : ℕ) → plain_by n p (renew k w) ≡ plain_by n p (renew k v)
    by zero = refl
    by (suc n) = refl

-- refusals 1 and 2 don't come where the line is there and the buffer has 64 bytes
free : (n l : ℕ) (b : List ℕ) → l < n → length b ≡ 64 → unless (ltb l n) 1 (unless (eqb (length b) 64) 2 0) ≡ 0
free n l b below size = rw (lt-ltb l n below, eq-eqb (length b) 64 size)

-- an accepted read is a visit
pub plain_read : (p : Plain) (task l : ℕ) (b : List ℕ) → task < 8 → l < p.lines → length b ≡ 64
    → plain_call p (read task l b) ≡ plain_visit p l
unfolding plain_call plain_by plain_accepted
plain_read p task l b named below size = ap (λ (n : ℕ). plain_by n p (read task l b)) none
  where
    none : unless (ltb task 8) 31 (unless (ltb l p.lines) 1 (unless (eqb (length b) 64) 2 0)) ≡ 0
    none = rw (lt-ltb task 8 named) (free p.lines l b below size)

pub plain_write : (p : Plain) (l : ℕ) (b : List ℕ) → l < p.lines → length b ≡ 64
    → plain_call p (write l b) ≡ record { out = done; now = with_plain_line p l (undamaged b) }
unfolding plain_call plain_by plain_accepted
plain_write p l b below size = ap (λ (n : ℕ). plain_by n p (write l b)) (free p.lines l b below size)

pub plain_fault : (p : Plain) (l k : ℕ) (q : List ℕ) → l < p.lines → k < 9 → length q ≡ 9
    → plain_call p (fault l k q) ≡ record { out = done; now = with_plain_line p l (with_fault (p.plain_line l) k q) }
unfolding plain_call plain_by plain_accepted
plain_fault p l k q below chip size = ap (λ (n : ℕ). plain_by n p (fault l k q)) none
  where
    none : unless (ltb l p.lines) 1 (unless (ltb k 9) 3 (unless (eqb (length q) 9) 4 0)) ≡ 0
    none = rw (lt-ltb l p.lines below, lt-ltb k 9 chip, eq-eqb (length q) 9 size)

-- line l after it was replaced
pub with_here : (p : Plain) (l : ℕ) (x : Line) → (with_plain_line p l x).plain_line l ≡ x
unfolding with_plain_line
with_here p l x = rw (eq-eqb l l refl)

-- the premise at a read, whether refused or not
pub premise_read : (n : ℕ) (p : Plain) (task l : ℕ) (b : List ℕ) → Premise p l → PremiseBy n p (read task l b)
premise_read zero p task l b h = (h, tt)
premise_read (suc n) p task l b h = tt

-- the other calls make no visit
pub premise_write : (n : ℕ) (p : Plain) (l : ℕ) (b : List ℕ) → PremiseBy n p (write l b)
premise_write zero p l b = tt
premise_write (suc n) p l b = tt

pub premise_fault : (n : ℕ) (p : Plain) (l k : ℕ) (q : List ℕ) → PremiseBy n p (fault l k q)
premise_fault zero p l k q = tt
premise_fault (suc n) p l k q = tt
