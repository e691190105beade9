-- Laws of fields and of the place of a byte.
-- Assumes nothing.
use Rattle.std.specs.Prelude.{◌≡◌, refl, Bool, true, false, cond, List, [], ◌∷◌, ◌++◌, ℕ, suc, ◌+◌, ◌-◌, ◌≤◌, ◌<◌, eqb, length, get_or, take, drop, not, ltb, Option, Some, None, MatchOption, Some, None}
use Rattle.std.specs.List.{position_or_len, position}
use Rattle.std.proofs.Common.{sym, ap, ap₂, ◌∙◌, add-one, append_assoc, drop-cons, take-append-drop, zero-le, not-suc-le-zero, le_of_suc-le-suc, arith, length-drop, take_all, eqb-true, ltb-true, ltb-false}
use Rattle.events.specs.Places.{index_of, index_after, Cut}
use Rattle.events.specs.Fields.{space, on_first, fields}

-- ---- the place of the first byte of a value

within : (t : Bool) (p n : ℕ) → p ≤ n → index_after t p ≤ suc n
unfolding index_after
within true p n h = zero-le
within false p n h = omega arith

pub place_within : (c : ℕ) (s : List ℕ) → index_of c s ≤ length s
unfolding index_of
place_within c [] = zero-le
place_within c (b ∷ bs) = within (eqb b c) (index_of c bs) (length bs) (place_within c bs)

holds : (t : Bool) (c b : ℕ) (bs : List ℕ) (p : ℕ) → (t ≡ true → b ≡ c) → (p < length bs → get_or bs p 0 ≡ c) → index_after t p < suc
    (length bs)
    → get_or (b ∷ bs) (index_after t p) 0 ≡ c
unfolding index_after
holds true c b bs p e f h = e refl
holds false c b bs p e f h = f (le_of_suc-le-suc h)

-- where there is one, it stands there
pub place_holds : (c : ℕ) (s : List ℕ) → index_of c s < length s → get_or s (index_of c s) 0 ≡ c
unfolding index_of
place_holds c [] h = absurd (not-suc-le-zero h)
place_holds c (b ∷ bs) h = holds (eqb b c) c b bs (index_of c bs) (eqb-true b c) (place_holds c bs) h

-- std's word for it
after : (t : Bool) (p : ℕ) → index_after t p ≡ cond (not t) (1 + p) 0
unfolding index_after
after true p = refl
after false p = omega arith

pub place_is : (c : ℕ) (s : List ℕ) → index_of c s ≡ position_or_len (λ (b : ℕ). eqb b c) s
unfolding index_of
place_is c [] = refl
place_is c (b ∷ bs) = after (eqb b c) _ ∙ ap (λ (p : ℕ). cond (not (eqb b c)) (1 + p) 0) (place_is c bs)

-- std's `position` tells it
pub place_found : (c : ℕ) (s : List ℕ) {r : Option ℕ} → r ≡ position (λ (b : ℕ). eqb b c) s
    → MatchOption r (index_of c s ≡ length s) (λ i. (i ≡ index_of c s) × (i < length s))
place_found c s e = rw e (by (ltb p (length s)) refl)
  where
    p : ℕ
    p = position_or_len (λ (b : ℕ). eqb b c) s

    by : (t : Bool) → ltb p (length s) ≡ t → MatchOption (cond t (Some p) None) (index_of c s ≡ length s) (λ i. (i ≡ index_of c s) × (i < length s))
    by true f = (sym (place_is c s), ltb-true _ _ f)
    by false f = omega (arith, place_is c s, place_within c s, ltb-false _ _ f)

-- what follows i bytes, as code lends it
pub tail_part : (s : List ℕ) (i : ℕ) → take (length s - i) (drop i s) ≡ drop i s
tail_part s i = let e = length-drop i s in take_all (length s - i) (drop i s) (omega arith)

-- s is cut there
pub cut_at : (c : ℕ) (s : List ℕ) (i : ℕ) → i ≡ index_of c s → i < length s → Cut c s (take i s) (take (length s - (i + 1)) (drop (i + 1) s))
cut_at c s i e l = record { inside = omega arith; before_is = rw e; behind_is = rw (tail_part s (i + 1), e) }

-- what stands before it, the byte and what stands behind it are all
pub cut_parts : {c : ℕ} {s f t : List ℕ} → Cut c s f t → s ≡ (f ++ (c ∷ [])) ++ t
cut_parts {c} {s} {f} {t} h =
    let i : ℕ = index_of c s in
    let byte : drop i s ≡ c ∷ t =
    drop-cons s i 0 h.inside
    ∙ ap₂ (λ (b : ℕ) (u : List ℕ). b ∷ u) (place_holds c s h.inside) (ap (λ (n : ℕ). drop n s) (sym (add-one i)) ∙ sym h.behind_is) in
    sym (take-append-drop i s)
    ∙ ap₂ ◌++◌ (sym h.before_is) byte
    ∙ sym (append_assoc f (c ∷ []) t)

pub cut_shorter : {c : ℕ} {s f t : List ℕ} → Cut c s f t → length t < length s
cut_shorter {c} {s} h = omega (arith, h.inside, ap length h.behind_is, length-drop (index_of c s + 1) s)

-- ---- fields

-- there is always a field
first_of : (P : List (List ℕ) → Type 0) (b : ℕ) (fs : List (List ℕ)) → ((f : List ℕ) (gs : List (List ℕ)) → P (f ∷ gs)) → P (on_first b fs)
unfolding on_first
first_of P b [] h = h (b ∷ []) []
first_of P b (f ∷ fs) h = h (b ∷ f) fs

either : (P : List (List ℕ) → Type 0) (t : Bool) (x y : List (List ℕ)) → P x → P y → P (cond t x y)
either P true x y h g = h
either P false x y h g = g

pub some_field : (P : List (List ℕ) → Type 0) (s : List ℕ) → ((f : List ℕ) (gs : List (List ℕ)) → P (f ∷ gs)) → P (fields s)
unfolding fields
some_field P [] h = h [] []
some_field P (b ∷ bs) h = either P (eqb b space) ([] ∷ fields bs) (on_first b (fields bs)) (h [] (fields bs)) (first_of P b (fields bs) h)

cut : (t : Bool) (b : ℕ) (bs : List ℕ) (p : ℕ) → (p < length bs → fields bs ≡ take p bs ∷ fields (drop (suc p) bs)) → index_after t p < suc
    (length bs)
    → cond t ([] ∷ fields bs) (on_first b (fields bs)) ≡ take (index_after t p) (b ∷ bs) ∷ fields (drop (suc (index_after t p)) (b ∷ bs))
unfolding on_first index_after
cut true b bs p f h = refl
cut false b bs p f h = ap (on_first b) (f (le_of_suc-le-suc h))

-- a space ends the first field
pub fields_cut : (s : List ℕ) → index_of space s < length s → fields s ≡ take (index_of space s) s ∷ fields (drop (suc (index_of space s)) s)
unfolding fields index_of
fields_cut [] h = absurd (not-suc-le-zero h)
fields_cut (b ∷ bs) h = cut (eqb b space) b bs (index_of space bs) (fields_cut bs) h

whole : (t : Bool) (b : ℕ) (bs : List ℕ) (p : ℕ) → (p ≡ length bs → fields bs ≡ bs ∷ []) → index_after t p ≡ suc (length bs)
    → cond t ([] ∷ fields bs) (on_first b (fields bs)) ≡ (b ∷ bs) ∷ []
unfolding on_first index_after
whole true b bs p f h = absurd (omega arith)
whole false b bs p f h = ap (on_first b) (f (omega arith))

-- without a space there is one field
pub fields_whole : (s : List ℕ) → index_of space s ≡ length s → fields s ≡ s ∷ []
unfolding fields index_of
fields_whole [] h = refl
fields_whole (b ∷ bs) h = whole (eqb b space) b bs (index_of space bs) (fields_whole bs) h
