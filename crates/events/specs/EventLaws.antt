-- Laws of the event of a line, and how long a line with an event can be.
-- Assumes nothing.
use Rattle.std.specs.Prelude.{◌≡◌, refl, Bool, true, false, ◌&&◌, cond, List, [], ◌∷◌, ℕ, suc, ◌+◌, ◌-◌, ◌≤◌, ◌<◌, eqb, ltb, length, get_or, take, drop, Option, Some, None}
use Rattle.std.specs.Option.{option_map, option_and_then}
use Rattle.std.proofs.Common.{sym, ap₂, ◌∙◌, eq-or-lt_of_le, eq-zero-or-pos, add-one, arith, length-drop, take_all, length-take-le, eqb-true, ne_eqb, ltb-true, lt-ltb, le-ltb, le-leb}
use Rattle.std.proofs.Math.Path.{ap}
use Rattle.std.proofs.Math.Logic.{⊎_elim}
use Rattle.std.proofs.lemmas.Bool.{eqb-false, lt-leb}
use Rattle.std.proofs.lemmas.Bool.Decides.{nat_tests}
use Rattle.std.proofs.lemmas.Option.{some_pair_parts}
use Rattle.events.specs.Places.{index_of, Cut}
use Rattle.events.specs.Fields.{space, on_first, fields}
use Rattle.events.specs.FieldLaws.{place_within, some_field, fields_cut, fields_whole}
use Rattle.events.specs.Numbers.{is_decimal, is_hex, value_of, number_if, leading_to, leading_number}
use Rattle.events.specs.NumberLaws.{space_decimal, space_hex, decimal_length, pattern_parts}
use Rattle.events.specs.Events.{number_then, last_field, byte_event, write_event, line_event, read_event, pattern_event, chip_event, fault_event, letter_event, event_by, event_of}
use Rattle.events.specs.declared.Event.{Event}
use Rattle.events.specs.declared.Event.TheVariants.{Write, Read, Fault}

-- either answer is none
same : (t : Bool) → ◌≡◌ {A = Option Event} (cond t None None) None
same true = refl
same false = refl

-- ---- a number in front of other fields

-- a number v was read, and the fields behind it are in t
pub record Led (s : List ℕ) (v : ℕ) (t : List ℕ) : Type 0 where
  pub inside : index_of space s < length s
  pub test : is_decimal (take (index_of space s) s) ≡ true
  pub value : value_of 10 (take (index_of space s) s) ≡ v
  pub rest : drop (index_of space s + 1) s ≡ t

led : (t u : Bool) {x v : ℕ} {ys zs : List ℕ} → cond {A = Option (ℕ × List ℕ)} (t && u) (Some (x, ys)) None ≡ Some (v, zs)
    → (t ≡ true) × (u ≡ true) × (x ≡ v) × (ys ≡ zs)
led true true h = (refl, refl, (some_pair_parts _ _ _ _ h).0, (some_pair_parts _ _ _ _ h).1)
led true false h = cc
led false u h = cc

pub leading_led : (s : List ℕ) {v : ℕ} {t : List ℕ} → leading_number s ≡ Some (v, t) → Led s v t
unfolding leading_number leading_to
leading_led s h =
    let l = led (ltb (index_of space s) (length s)) (is_decimal (take (index_of space s) s)) h in
    record { inside = ltb-true _ _ l.0; test = l.1; value = l.2; rest = l.3 }

not_led : (t : Bool) (x : ℕ × List ℕ) → cond t (Some x) None ≡ None → t ≡ false
not_led true x e = cc
not_led false x e = refl

module _ (g : ℕ → List (List ℕ) → Option Event) (s : List ℕ) where
  pub number_then_lem : {v : ℕ} {t : List ℕ} → leading_number s ≡ Some (v, t) → number_then g (fields s) ≡ g v (fields t)
  unfolding number_then
  number_then_lem e =
      let l = leading_led s e in
      ap (number_then g) (fields_cut s l.inside) ∙ rw l.test
      (ap₂ (λ (v : ℕ) (t : List ℕ). g v (fields t)) l.value (ap (λ (n : ℕ). drop n s) (sym (add-one _)) ∙ l.rest))

  pub number_unless : ((n : ℕ) → g n [] ≡ None) → leading_number s ≡ None → number_then g (fields s) ≡ None
  unfolding number_then leading_number leading_to
  number_unless none e =
      ⊎_elim
      (λ w. ap (number_then g) (fields_whole s w) ∙ rw (none (value_of 10 s), same (is_decimal s)))
      (λ l.
      let t = not_led (ltb (index_of space s) (length s) && is_decimal (take (index_of space s) s)) _ e in
      ap (number_then g) (fields_cut s l) ∙ rw (rw (lt-ltb _ _ l) at t))
      (eq-or-lt_of_le (place_within space s))

-- what is read in front of a cut, and where there is none
pub leading_at : {s f t : List ℕ} → Cut space s f t
    → leading_number s ≡ option_map (λ (v : ℕ). (v, t)) (number_if (is_decimal f) (value_of 10 f))
unfolding leading_number leading_to
leading_at {s} {f} {t} h =
    rw (lt-ltb (index_of space s) (length s) h.inside, ← h.before_is, ← h.behind_is)
    (by (is_decimal f))
  where
    by : (b : Bool) → cond {A = Option (ℕ × List ℕ)} b (Some (value_of 10 f, t)) None ≡ option_map (λ (v : ℕ). (v, t)) (number_if b (value_of 10 f))
    by true = refl
    by false = refl

pub leading_none : (s : List ℕ) → index_of space s ≡ length s → leading_number s ≡ None
unfolding leading_number leading_to
leading_none s e = rw (le-ltb (index_of space s) (length s) (omega arith))

-- ---- a last field

-- what it asks for, where it asks for nothing with a space in it
last_by : (a : List ℕ → Option Event) (s : List ℕ) → (index_of space s < length s → a s ≡ None) → last_field a (fields s) ≡ a s
unfolding last_field
last_by a s unless =
    ⊎_elim
    (λ e. ap (last_field a) (fields_whole s e))
    (λ l.
    let f = take (index_of space s) s in
    ap (last_field a) (fields_cut s l)
    ∙ some_field (λ fs. last_field a (f ∷ fs) ≡ None) (drop (suc (index_of space s)) s) (λ h fs. refl)
    ∙ sym (unless l))
    (eq-or-lt_of_le (place_within space s))

pub byte_by : (n : ℕ) (s : List ℕ) → last_field (byte_event n) (fields s) ≡ byte_event n s
unfolding byte_event
byte_by n s = last_by (byte_event n) s (λ l. rw (space_hex s l 2))

pub read_by_lem : (s : List ℕ) → read_event (fields s) ≡ line_event s
unfolding read_event line_event
read_by_lem s = last_by line_event s (λ l. rw (space_decimal s l))

pub pattern_by : (n k : ℕ) (s : List ℕ) → last_field (pattern_event n k) (fields s) ≡ pattern_event n k s
unfolding pattern_event
pattern_by n k s = last_by (pattern_event n k) s (λ l. rw (space_hex s l 18))

-- ---- an event's fields, read one after the other

mapped : (t : Bool) (f : ℕ → Event) (v : ℕ) → cond t (Some (f v)) None ≡ option_map f (number_if t v)
mapped true f v = refl
mapped false f v = refl

then_by : (g : ℕ → List (List ℕ) → Option Event) (f : ℕ × List ℕ → Option Event) → ((n : ℕ) → g n [] ≡ None)
    → ((n : ℕ) (t : List ℕ) → g n (fields t) ≡ f (n, t)) → (s : List ℕ) → number_then g (fields s) ≡ option_and_then f (leading_number s)
then_by g f none more s = by (leading_number s) refl
  where
    by : (r : Option (ℕ × List ℕ)) → leading_number s ≡ r → number_then g (fields s) ≡ option_and_then f r
    by (Some (n, t)) e = number_then_lem g s e ∙ more n t
    by None e = number_unless g s none e

-- L HH
pub write_by : (s : List ℕ) → write_event (fields s)
    ≡ option_and_then (λ (p : ℕ × List ℕ). option_map (Write p.0) (number_if (is_hex 2 p.1) (value_of 16 p.1))) (leading_number s)
unfolding write_event last_field byte_event
write_by s =
    then_by (λ n. last_field (byte_event n)) _ (λ n. refl) (λ n t. byte_by n t ∙ mapped (is_hex 2 t) (Write n) (value_of 16 t)) s

-- L
pub read_by : (s : List ℕ) → read_event (fields s) ≡ option_map Read (number_if (is_decimal s) (value_of 10 s))
unfolding line_event
read_by s = read_by_lem s ∙ mapped (is_decimal s) Read (value_of 10 s)

-- L K and a pattern
pub fault_by : (s : List ℕ) → fault_event (fields s)
    ≡ option_and_then (λ (p : ℕ × List ℕ). option_and_then (λ (q : ℕ × List ℕ). pattern_event p.0 q.0 q.1) (leading_number p.1)) (leading_number s)
unfolding fault_event chip_event last_field number_then
fault_by s =
    then_by chip_event _ (λ n. refl)
    (λ n t. then_by (λ k. last_field (pattern_event n k)) (λ q. pattern_event n q.0 q.1) (λ k. refl) (λ k r. pattern_by n k r) t) s

pair_by : (t u : Bool) (n k w v : ℕ) → cond (t && u) (Some (Fault n k w v)) None
    ≡ option_and_then (λ x. option_map (Fault n k x) (number_if u v)) (number_if t w)
pair_by true true n k w v = refl
pair_by true false n k w v = refl
pair_by false u n k w v = refl

-- a pattern of 18 bytes: a word of 16 digits, then a check of two
pub pattern_two : (n k : ℕ) (p : List ℕ) {f h : List ℕ} → length p ≡ 18 → f ≡ take 16 p → h ≡ drop 16 p → pattern_event n k p
    ≡ option_and_then (λ (w : ℕ). option_map (Fault n k w) (number_if (is_hex 2 h) (value_of 16 h))) (number_if (is_hex 16 f) (value_of 16 f))
unfolding pattern_event
pattern_two n k p size e g =
    rw (e, g, pattern_parts p (drop 16 p) size refl) (pair_by (is_hex 16 (take 16 p)) (is_hex 2 (drop 16 p)) n k _ _)

-- any other pattern is none
pub pattern_none : (n k : ℕ) (p : List ℕ) → (length p ≡ 18 → ⊥) → pattern_event n k p ≡ None
unfolding pattern_event is_hex
pattern_none n k p other = rw (ne_eqb (length p) 18 other)

-- ---- the letter

no_fields : (t u v : Bool) → ◌≡◌ {A = Option Event} (cond t None (cond u None (cond v None None))) None
no_fields true u v = refl
no_fields false true v = refl
no_fields false false v = same v

one_byte : (t : Bool) (a : ℕ) → event_by (cond t ([] ∷ [] ∷ []) ((a ∷ []) ∷ [])) ≡ None
unfolding event_by letter_event write_event read_event fault_event number_then last_field
one_byte true a = refl
one_byte false a = no_fields (eqb a 119) (eqb a 114) (eqb a 102)

-- a line of fewer than two bytes
pub short_event : (s : List ℕ) → length s < 2 → event_of s ≡ None
unfolding event_of event_by fields on_first
short_event [] h = refl
short_event (a ∷ []) h = one_byte (eqb a space) a
short_event (a ∷ b ∷ s) h = absurd (omega arith)

two_bytes : (t : Bool) (a b : ℕ) (s : List ℕ) (fs : List (List ℕ)) → event_by (cond t ([] ∷ fs) (on_first a (on_first b (fields s)))) ≡ None
unfolding on_first event_by
two_bytes true a b s fs = refl
two_bytes false a b s fs = some_field (λ gs. event_by (on_first a (on_first b gs)) ≡ None) s (λ f gs. refl)

-- a line whose second byte is no space
pub joined_event : (s : List ℕ) → 2 ≤ length s → (get_or s 1 0 ≡ space → ⊥) → event_of s ≡ None
unfolding event_of fields
joined_event [] h n = absurd (omega arith)
joined_event (a ∷ []) h n = absurd (omega arith)
joined_event (a ∷ b ∷ s) h n = rw (ne_eqb b space n) (two_bytes (eqb a space) a b s _)

one_letter : (t : Bool) (a : ℕ) (s : List ℕ) → eqb a space ≡ t → event_by (cond t ([] ∷ [] ∷ fields s) (on_first a ([] ∷ fields s))) ≡
    letter_event a (fields s)
unfolding on_first event_by letter_event
one_letter true a s e = let f : a ≡ 32 = eqb-true a 32 e in rw f
one_letter false a s e = refl

pub letter_event_lem : (s : List ℕ) → 2 ≤ length s → get_or s 1 0 ≡ space → event_of s ≡ letter_event (get_or s 0 0) (fields (drop 2 s))
unfolding event_of fields
letter_event_lem [] h e = absurd (omega arith)
letter_event_lem (a ∷ []) h e = absurd (omega arith)
letter_event_lem (a ∷ b ∷ s) h e = ap (λ (x : ℕ). event_of (a ∷ x ∷ s)) e ∙ one_letter (eqb a space) a s refl

-- a line of two bytes or more, by these two
pub event_at : (s : List ℕ) → 2 ≤ length s
    → event_of s ≡ cond (eqb (get_or s 1 0) space) (letter_event (get_or s 0 0) (fields (drop 2 s))) None
event_at s h = by (eqb (get_or s 1 0) space) refl
  where
    by : (t : Bool) → eqb (get_or s 1 0) space ≡ t → event_of s ≡ cond t (letter_event (get_or s 0 0) (fields (drop 2 s))) None
    by true e = letter_event_lem s h (eqb-true _ space e)
    by false e = joined_event s h (eqb-false _ space e)

-- what tells that a line has no event
pub ruleset line_rules = (nat_tests, short_event, event_at)

-- ---- how long a line with an event can be

long_hex : (n : ℕ) (s : List ℕ) → n < length s → is_hex n s ≡ false
unfolding is_hex
long_hex n s h = rw (ne_eqb (length s) n (λ e. omega arith))

long_decimal : (s : List ℕ) → 9 < length s → is_decimal s ≡ false
unfolding is_decimal
long_decimal s h = rw (lt-leb (length s) 9 h, le-leb 1 (length s) (omega arith))

-- a number and the space behind it have at most ten bytes
number_long : (g : ℕ → List (List ℕ) → Option Event) (k : ℕ) → ((n : ℕ) → g n [] ≡ None)
    → ((n : ℕ) (s : List ℕ) → k < length s → g n (fields s) ≡ None) → (s : List ℕ) → k + 10 < length s → number_then g (fields s) ≡ None
number_long g k none long s h = by (leading_number s) refl
  where
    by : (r : Option (ℕ × List ℕ)) → leading_number s ≡ r → number_then g (fields s) ≡ None
    by (Some (v, t)) e =
        let l = leading_led s e in
        let size = decimal_length (take (index_of space s) s) l.test in
        let most : index_of space s ≤ length s = place_within space s in
        let left : length t + (index_of space s + 1) ≡ length s = omega (arith, l.inside, ap length l.rest, length-drop (index_of space s + 1) s) in
        number_then_lem g s e ∙ long v t (omega (arith, left, length-take-le (index_of space s) s most))
    by None e = number_unless g s none e

unknown : (t : Bool) (e f : Option Event) → e ≡ None → f ≡ None → cond t e f ≡ None
unknown true e f h g = h
unknown false e f h g = g

letter_long : (a : ℕ) (s : List ℕ) → 38 < length s → letter_event a (fields s) ≡ None
unfolding letter_event write_event chip_event fault_event line_event byte_event pattern_event number_then last_field
letter_long a s h =
    unknown (eqb a 119) _ _
    (number_long (λ n. last_field (byte_event n)) 2 (λ n. refl) (λ n r l. byte_by n r ∙ rw (long_hex 2 r l)) s (omega arith))
    (unknown (eqb a 114) _ _ (read_by_lem s ∙ rw (long_decimal s (omega arith)))
    (unknown (eqb a 102) _ _
    (number_long chip_event 28 (λ n. refl)
    (λ n. number_long (λ k. last_field (pattern_event n k)) 18 (λ k. refl) (λ k r l. pattern_by n k r ∙ rw (long_hex 18 r l))) s h)
    refl))

-- the longest line with an event has 40 bytes: a letter, nine digits, nine digits and 18, with a space between
pub long_unknown : (s : List ℕ) → 40 < length s → event_of s ≡ None
long_unknown s h = by (eqb (get_or s 1 0) space) refl
  where
    by : (t : Bool) → eqb (get_or s 1 0) space ≡ t → event_of s ≡ None
    by true e = letter_event_lem s (omega arith) (eqb-true _ space e) ∙ letter_long (get_or s 0 0) (drop 2 s) (omega (arith, length-drop 2 s))
    by false e = joined_event s (omega arith) (eqb-false _ space e)

-- so the first 41 bytes of a line tell its event
pub kept_event : (s : List ℕ) → event_of (take 41 s) ≡ event_of s
kept_event s =
    ⊎_elim
    (λ e. let short : length s ≤ 41 = omega arith in ap event_of (take_all 41 s short))
    (λ l.
    let long : 41 ≤ length s = omega arith in
    long_unknown (take 41 s) (omega (arith, length-take-le 41 s long)) ∙ sym (long_unknown s long))
    (eq-zero-or-pos (length s - 41))
