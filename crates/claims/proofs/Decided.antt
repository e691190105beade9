-- The premise, and what the arguments' types say, as tests, so that both are settled by computation for a given list.
-- Assumes nothing.
use mathlib.Core.Path.{◌≡◌, sym, ap, ◌∙◌}
use mathlib.Core.Bool.{Bool, true, false, not, ◌&&◌, ◌||◌}
use mathlib.Core.List.{List, [], ◌∷◌}
use Prim.Native.Nat.{ℕ, zero, suc, ◌<◌}
use lib.Dec.{eqb, leb, ltb, lit<}
use borrow.Author.Tests.{eqb-true, leb-true, ltb-true, not-false}
use Rattle.code.specs.Code.{is_codeword}
use Rattle.cells.specs.Chips.{count}
use Rattle.code.specs.TestLaws.{and_first, and_second}
use Rattle.cells.specs.ChipLaws.{count_none}
use Rattle.words.specs.Bytes.{Bytes}
use Rattle.words.specs.ByteLaws.{bytes_cons}
use Rattle.code.specs.Lists.{Every}
use Rattle.claims.specs.Lists.{Call, write, read, patrol, renew, fault, Typed}
use Rattle.claims.specs.Plain.{Line, Plain, damage, wide, blames, plain_visit, plain_refusal, visits, plain_call}
use Rattle.claims.specs.Premises.{LinePremise, is_diagnosed, Premise, AtVisits, PremiseBy, AtCalls}

-- a pattern other than zero that is a codeword
abbrev hidden : Line → ℕ → Bool
hidden x k = is_codeword (damage x k) && not (eqb (damage x k) 0)

abbrev pub line_holds : Line → Bool
line_holds x = eqb (count (hidden x) 9) 0 && leb (count (wide x) 9) 1

line_holds_lem : (x : Line) → line_holds x ≡ true → LinePremise x
line_holds_lem x e =
    let none : count (hidden x) 9 ≡ 0 = eqb-true (count (hidden x) 9) 0 (and_first (eqb (count (hidden x) 9) 0) few e) in
    record {
      detected = λ k l c. by k c (count_none (hidden x) 9 none k l);
      one_wide = leb-true (count (wide x) 9) 1 (and_second (eqb (count (hidden x) 9) 0) few e);
    }
  where
    few : Bool
    few = leb (count (wide x) 9) 1

    by : (k : ℕ) → is_codeword (damage x k) ≡ true → hidden x k ≡ false → damage x k ≡ 0
    by k c h =
        eqb-true (damage x k) 0
        (not-false (eqb (damage x k) 0) (sym (ap (λ (t : Bool). t && not (eqb (damage x k) 0)) c) ∙ h))

-- a chip that is blamed wrongly
abbrev wronged : Plain → ℕ → ℕ → Bool
wronged p l k = blames p l k && not (wide (p.plain_line l) k)

-- no chip is, or the visit comes to no diagnosis
abbrev row_holds : Plain → ℕ → Bool
row_holds p l = not (is_diagnosed (p.plain_line l)) || eqb (count (wronged p l) 9) 0

row_holds_lem : (p : Plain) (l : ℕ) → row_holds p l ≡ true → is_diagnosed (p.plain_line l) ≡ true
    → (k : ℕ) → k < 9 → blames p l k ≡ true → wide (p.plain_line l) k ≡ true
row_holds_lem p l e d k b c =
    let none : count (wronged p l) 9 ≡ 0 =
    eqb-true (count (wronged p l) 9) 0 (sym (ap (λ (t : Bool). not t || eqb (count (wronged p l) 9) 0) d) ∙ e) in
    not-false (wide (p.plain_line l) k)
    (sym (ap (λ (t : Bool). t && not (wide (p.plain_line l) k)) c) ∙ count_none (wronged p l) 9 none k b)

abbrev pub premise_holds : Plain → ℕ → Bool
premise_holds p l = line_holds (p.plain_line l) && row_holds p l

pub premise_holds_lem : (p : Plain) (l : ℕ) → premise_holds p l ≡ true → Premise p l
premise_holds_lem p l e =
    record {
      line = line_holds_lem (p.plain_line l) (and_first (line_holds (p.plain_line l)) (row_holds p l) e);
      only_wide = row_holds_lem p l (and_second (line_holds (p.plain_line l)) (row_holds p l) e);
    }

abbrev pub visits_hold : Plain → List ℕ → Bool
visits_hold p [] = true
visits_hold p (l ∷ ls) = premise_holds p l && visits_hold (plain_visit p l).now ls

visits_hold_lem : (ls : List ℕ) (p : Plain) → visits_hold p ls ≡ true → AtVisits p ls
visits_hold_lem [] p e = tt
visits_hold_lem (l ∷ ls) p e =
    let rest : Bool = visits_hold (plain_visit p l).now ls in (
      premise_holds_lem p l (and_first (premise_holds p l) rest e),
      visits_hold_lem ls (plain_visit p l).now (and_second (premise_holds p l) rest e),
    )

abbrev pub call_holds : ℕ → Plain → Call → Bool
call_holds zero p c = visits_hold p (visits p.lines c)
call_holds (suc n) p c = true

call_holds_lem : (n : ℕ) (p : Plain) (c : Call) → call_holds n p c ≡ true → PremiseBy n p c
call_holds_lem zero p c e = visits_hold_lem (visits p.lines c) p e
call_holds_lem (suc n) p c e = tt

-- the premise at each call of a list
abbrev pub calls_hold : Plain → List Call → Bool
calls_hold p [] = true
calls_hold p (c ∷ cs) = call_holds (plain_refusal p.lines c) p c && calls_hold (plain_call p c).now cs

pub calls_hold_lem : (cs : List Call) (p : Plain) → calls_hold p cs ≡ true → AtCalls p cs
calls_hold_lem [] p e = tt
calls_hold_lem (c ∷ cs) p e =
    let here : Bool = call_holds (plain_refusal p.lines c) p c in
    let rest : Bool = calls_hold (plain_call p c).now cs in
    (call_holds_lem (plain_refusal p.lines c) p c (and_first here rest e), calls_hold_lem cs (plain_call p c).now (and_second here rest e))

-- ---- what the arguments' types say

abbrev pub bytes_hold : List ℕ → Bool
bytes_hold [] = true
bytes_hold (b ∷ bs) = ltb b 256 && bytes_hold bs

pub bytes_hold_lem : (bs : List ℕ) → bytes_hold bs ≡ true → Bytes bs
bytes_hold_lem [] e = λ i. lit< tt
bytes_hold_lem (b ∷ bs) e =
    bytes_cons b bs (ltb-true b 256 (and_first (ltb b 256) (bytes_hold bs) e)) (bytes_hold_lem bs (and_second (ltb b 256) (bytes_hold bs) e))

abbrev pub is_typed : Call → Bool
is_typed (write l b) = bytes_hold b
is_typed (read task l b) = true
is_typed (patrol task first budget) = true
is_typed (renew k w) = true
is_typed (fault l k q) = bytes_hold q

is_typed_lem : (c : Call) → is_typed c ≡ true → Typed c
is_typed_lem (write l b) e = bytes_hold_lem b e
is_typed_lem (read task l b) e = tt
is_typed_lem (patrol task first budget) e = tt
is_typed_lem (renew k w) e = tt
is_typed_lem (fault l k q) e = bytes_hold_lem q e

abbrev pub all_typed : List Call → Bool
all_typed [] = true
all_typed (c ∷ cs) = is_typed c && all_typed cs

pub all_typed_lem : (cs : List Call) → all_typed cs ≡ true → Every Typed cs
all_typed_lem [] e = tt
all_typed_lem (c ∷ cs) e = (is_typed_lem c (and_first (is_typed c) (all_typed cs) e), all_typed_lem cs (and_second (is_typed c) (all_typed cs) e))
