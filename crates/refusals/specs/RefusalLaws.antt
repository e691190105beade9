-- The first of several refusals, what a comparison says of a condition, and what an accepted call is known to be given.
-- Assumes nothing.
use Rattle.std.specs.Prelude.{◌≡◌, refl, ◌≢◌, Bool, true, false, not, ◌&&◌, ◌||◌, ℕ, zero, suc, ◌*◌, ◌/◌, ◌%◌, ◌≤◌, ◌<◌, eqb, ltb, leb, length, get_or}
use Rattle.std.proofs.Common.{sym, ap, ap₂, ◌∙◌, true≢false, suc-ne-zero, arith, ext_get_or, ltb-true, ltb-false, leb-true, leb-false, eqb-true, lt-ltb, le-ltb, eq-eqb, ne_eqb}
use mathlib.Core.List.{List, [], ◌∷◌, ◌++◌}
use Rattle.std.proofs.lemmas.Bool.{eqb-false, not-false}
use Rattle.code.specs.TestLaws.{and_second}
use Rattle.cells.specs.Chips.{count}
use Rattle.cells.specs.ChipLaws.{count_none}
use Rattle.record.specs.declared.Rank.{Rank}
use Rattle.refusals.specs.Refusals.{line_out, buffer_out, chip_out, pattern_out, catch_words_out, memory_out, not_ready, memory_differs, register_differs, task_out, refused_if, first_of, state_refusals, line_refusals, visit_refusals, boot_refusal, write_refusal, read_tests, patrol_refusal, renew_refusal, fault_refusal}

-- ---- the first of several

pub first_alone : (n : ℕ) → first_of (n ∷ []) ≡ n
first_alone zero = refl
first_alone (suc n) = refl

pub first_came : (n : ℕ) (ns : List ℕ) → n ≢ 0 → first_of (n ∷ ns) ≡ n
first_came zero ns h = absurd (h refl)
first_came (suc n) ns h = refl

-- the first of a list, and then others, is the first of both
pub first_of_both : (xs ys : List ℕ) → first_of (first_of xs ∷ ys) ≡ first_of (xs ++ ys)
first_of_both [] ys = refl
first_of_both (zero ∷ xs) ys = first_of_both xs ys
first_of_both (suc n ∷ xs) ys = refl

-- some refusals, whose first is n, and one more after them
pub first_more : (xs : List ℕ) (n : ℕ) (a b : Bool) (number : ℕ) → n ≡ first_of xs → a ≡ b
    → first_of (n ∷ refused_if a number ∷ []) ≡ first_of (xs ++ (refused_if b number ∷ []))
first_more xs n a b number e c =
    ap₂ (λ (k : ℕ) (t : Bool). first_of (k ∷ refused_if t number ∷ [])) e c ∙ first_of_both xs (refused_if b number ∷ [])

-- where no refusal came, the first condition does not hold, and none came of the rest
none_held : (b : Bool) (n : ℕ) (ns : List ℕ) → first_of (refused_if b (suc n) ∷ ns) ≡ 0 → (b ≡ false) × (first_of ns ≡ 0)
none_held true n ns e = absurd (suc-ne-zero n e)
none_held false n ns e = (refl, e)

-- ---- a comparison as a condition

-- not below is at least
pub at_least : (a b : ℕ) → leb b a ≡ not (ltb a b)
at_least a b = pick (leb b a) refl
  where
    pick : (t : Bool) → leb b a ≡ t → t ≡ not (ltb a b)
    pick true e = sym (ap not (le-ltb a b (leb-true b a e)))
    pick false e = sym (ap not (lt-ltb a b (leb-false b a e)))

pub not_equal : (a b : ℕ) → a ≢ b → not (eqb a b) ≡ true
not_equal a b h = ap not (ne_eqb a b h)

pub equal : (a b : ℕ) → a ≡ b → not (eqb a b) ≡ false
equal a b e = ap not (eq-eqb a b e)

is_below : (a b : ℕ) → not (ltb a b) ≡ false → a < b
is_below a b e = ltb-true a b (not-false (ltb a b) e)

is_equal : (a b : ℕ) → not (eqb a b) ≡ false → a ≡ b
is_equal a b e = eqb-true a b (not-false (eqb a b) e)

or_first : (a b : Bool) → (a || b) ≡ false → a ≡ false
or_first true b e = absurd (true≢false e)
or_first false b e = refl

or_second : (a b : Bool) → (a || b) ≡ false → b ≡ false
or_second true b e = absurd (true≢false e)
or_second false b e = e

above : (a b : ℕ) → not (leb a b) ≡ ltb b a
above a b = pick (leb a b) refl
  where
    pick : (t : Bool) → leb a b ≡ t → not t ≡ ltb b a
    pick true e = sym (le-ltb b a (leb-true a b e))
    pick false e = sym (lt-ltb b a (leb-false a b e))

-- ---- 11 and 12 by comparisons

pub memory_empty : (m : List ℕ) → length m ≡ 0 → memory_out m ≡ true
unfolding memory_out
memory_empty m e = ap (λ (t : Bool). t || (not (eqb (length m % 81) 0) || ltb 65536 (length m / 81))) (eq-eqb (length m) 0 e)

pub memory_ragged : (m : List ℕ) → length m ≢ 0 → length m % 81 ≢ 0 → memory_out m ≡ true
unfolding memory_out
memory_ragged m h g = ap₂ (λ (s t : Bool). s || (t || ltb 65536 (length m / 81))) (ne_eqb (length m) 0 h) (not_equal (length m % 81) 0 g)

pub memory_lines : (m : List ℕ) → length m ≢ 0 → length m % 81 ≡ 0 → memory_out m ≡ ltb 65536 (length m / 81)
unfolding memory_out
memory_lines m h e = ap₂ (λ (s t : Bool). s || (t || ltb 65536 (length m / 81))) (ne_eqb (length m) 0 h) (equal (length m % 81) 0 e)

-- ---- what an accepted call is given

-- by 12 and 13 Enable is set and the memory has the record's lines; by 14 nine registers equal nine catch-words
pub record Tested (r : Rank) (m : List ℕ) : Type 0 where
  pub enabled : r.enable ≡ true
  pub few : r.lines ≤ 65536
  pub size : length m ≡ 81 * r.lines
  pub equal : length r.registers ≡ 9 → length r.catch_words ≡ 9 → r.registers ≡ r.catch_words

ready_few : (r : Rank) → not_ready r ≡ false → r.lines ≤ 65536
unfolding not_ready
ready_few r e =
    let within : (leb 1 r.lines && leb r.lines 65536) ≡ true =
    not-false (leb 1 r.lines && leb r.lines 65536) (or_second (not r.enable) (not (leb 1 r.lines && leb r.lines 65536)) e) in
    leb-true r.lines 65536 (and_second (leb 1 r.lines) (leb r.lines 65536) within)

ready_enabled : (r : Rank) → not_ready r ≡ false → r.enable ≡ true
unfolding not_ready
ready_enabled r e = not-false r.enable (or_first (not r.enable) (not (leb 1 r.lines && leb r.lines 65536)) e)

none_differs : (r : Rank) → register_differs r ≡ false → length r.registers ≡ 9 → length r.catch_words ≡ 9
    → r.registers ≡ r.catch_words
unfolding register_differs
none_differs r e registers words =
    let none : count other 9 ≡ 0 = omega (arith, ltb-false 0 (count other 9) e) in
    ext_get_or 0 r.registers r.catch_words (registers ∙ sym words)
    (λ k l. is_equal (get_or r.registers k 0) (get_or r.catch_words k 0) (count_none other 9 none k (omega (arith, registers))))
  where
    other : ℕ → Bool
    other k = not (eqb (get_or r.registers k 0) (get_or r.catch_words k 0))

module _ (r : Rank) (m : List ℕ) where
  state_passed : (ns : List ℕ) → first_of (state_refusals r m ++ ns) ≡ 0 → Tested r m × (first_of ns ≡ 0)
  unfolding memory_differs
  state_passed ns e =
      let a = none_held (not_ready r) 11 (refused_if (memory_differs r m) 13 ∷ refused_if (register_differs r) 14 ∷ ns) e in
      let b = none_held (memory_differs r m) 12 (refused_if (register_differs r) 14 ∷ ns) a.1 in
      let d = none_held (register_differs r) 13 ns b.1 in
      let tested : Tested r m =
      record {
        enabled = ready_enabled r a.0;
        few = ready_few r a.0;
        size = is_equal (length m) (81 * r.lines) b.0;
        equal = none_differs r d.0;
      } in
      (tested, d.1)

  line_passed : (l : ℕ) (ns : List ℕ) → first_of (line_refusals r m l ++ ns) ≡ 0 → Tested r m × (l < r.lines) × (first_of ns ≡ 0)
  unfolding line_out
  line_passed l ns e =
      let s = state_passed (refused_if (line_out r l) 1 ∷ ns) e in
      let x = none_held (line_out r l) 0 ns s.1 in
      (s.0, is_below l r.lines x.0, x.1)

  visit_passed : (task l : ℕ) (ns : List ℕ) → first_of (visit_refusals r m task l ++ ns) ≡ 0
      → Tested r m × (task < 8) × (l < r.lines) × (first_of ns ≡ 0)
  unfolding task_out line_out
  visit_passed task l ns e =
      let s = state_passed (refused_if (task_out task) 31 ∷ refused_if (line_out r l) 1 ∷ ns) e in
      let x = none_held (task_out task) 30 (refused_if (line_out r l) 1 ∷ ns) s.1 in
      let y = none_held (line_out r l) 0 ns x.1 in
      (s.0, is_below task 8 x.0, is_below l r.lines y.0, y.1)

  buffer_is : (b : List ℕ) → first_of (refused_if (buffer_out b) 2 ∷ []) ≡ 0 → length b ≡ 64
  unfolding buffer_out
  buffer_is b e = is_equal (length b) 64 (none_held (buffer_out b) 1 [] e).0

  pub write_passed : (l : ℕ) (b : List ℕ) → write_refusal r m l b ≡ 0 → Tested r m × (l < r.lines) × (length b ≡ 64)
  unfolding write_refusal
  write_passed l b e =
      let s = line_passed l (refused_if (buffer_out b) 2 ∷ []) e in
      (s.0, s.1, buffer_is b s.2)

  pub read_passed : (task l : ℕ) (b : List ℕ) → read_tests r m task l b ≡ 0
      → Tested r m × (task < 8) × (l < r.lines) × (length b ≡ 64)
  unfolding read_tests
  read_passed task l b e =
      let s = visit_passed task l (refused_if (buffer_out b) 2 ∷ []) e in
      (s.0, s.1, s.2, buffer_is b s.3)

  pub patrol_passed : (task l : ℕ) → patrol_refusal r m task l ≡ 0 → Tested r m × (task < 8) × (l < r.lines)
  unfolding patrol_refusal
  patrol_passed task l e =
      let s = visit_passed task l [] e in
      (s.0, s.1, s.2)

  pub fault_passed : (l k : ℕ) (p : List ℕ) → fault_refusal r m l k p ≡ 0 → Tested r m × (l < r.lines) × (k < 9) × (length p ≡ 9)
  unfolding fault_refusal chip_out pattern_out
  fault_passed l k p e =
      let s = line_passed l (refused_if (chip_out k) 3 ∷ refused_if (pattern_out p) 4 ∷ []) e in
      let y = none_held (chip_out k) 2 (refused_if (pattern_out p) 4 ∷ []) s.2 in
      let z = none_held (pattern_out p) 3 [] y.1 in
      (s.0, s.1, is_below k 9 y.0, is_equal (length p) 9 z.0)

pub renew_passed : (r : Rank) (k : ℕ) → renew_refusal r k ≡ 0 → k < 9
unfolding renew_refusal chip_out
renew_passed r k e =
    let x = none_held (not_ready r) 11 (refused_if (register_differs r) 14 ∷ refused_if (chip_out k) 3 ∷ []) e in
    let y = none_held (register_differs r) 13 (refused_if (chip_out k) 3 ∷ []) x.1 in
    is_below k 9 (none_held (chip_out k) 2 [] y.1).0

-- a memory of 1 to 65,536 lines, and nine catch-words
pub record Bootable (m cws : List ℕ) : Type 0 where
  pub some : 1 ≤ length m / 81
  pub few : length m / 81 ≤ 65536
  pub exact : length m ≡ 81 * (length m / 81)
  pub nine : length cws ≡ 9

pub boot_passed : (m cws : List ℕ) → boot_refusal m cws ≡ 0 → Bootable m cws
unfolding boot_refusal memory_out catch_words_out
boot_passed m cws e =
    let n : ℕ = length m in
    let x = none_held (memory_out m) 10 (refused_if (catch_words_out cws) 5 ∷ []) e in
    let y = none_held (catch_words_out cws) 4 [] x.1 in
    let rest : (not (eqb (n % 81) 0) || ltb 65536 (n / 81)) ≡ false = or_second (eqb n 0) (not (eqb (n % 81) 0) || ltb 65536 (n / 81))
    x.0 in
    let nonempty : n ≢ 0 = eqb-false n 0 (or_first (eqb n 0) (not (eqb (n % 81) 0) || ltb 65536 (n / 81)) x.0) in
    let lines : n % 81 ≡ 0 = is_equal (n % 81) 0 (or_first (not (eqb (n % 81) 0)) (ltb 65536 (n / 81)) rest) in
    record {
      some = omega arith;
      few = ltb-false 65536 (n / 81) (or_second (not (eqb (n % 81) 0)) (ltb 65536 (n / 81)) rest);
      exact = omega arith;
      nine = is_equal (length cws) 9 y.0;
    }
