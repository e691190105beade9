-- Laws of texts laid in bytes, and of printed digits.
-- Assumes nothing.
use Rattle.std.specs.Prelude.{◌≡◌, refl, Bool, true, false, cond, List, [], ◌++◌, ℕ, ◌+◌, ◌-◌, ◌^◌, ◌≤◌, ◌<◌, min, max, ltb, length, take, drop}
use Rattle.std.proofs.Common.{sym, ap, ap₂, ◌∙◌, ⊎_elim, append-nil, append_assoc, le_refl, le_antisymm, eq-zero-or-pos, arith, lit<, length-append, length-take, drop_of_length-le, drop-drop, ltb-true, ltb-false}
use Rattle.std.proofs.Math.Nat.{pow-le-pow_right}
use Rattle.std.proofs.lemmas.List.Edits.{sets, sets-eq}
use Rattle.std.proofs.Math.Seq.{take-length, length-sets}
use Rattle.io.specs.Digits.{IsDigitCount}
use Rattle.words.specs.ByteLaws.{sets_append}
use Rattle.texts.specs.Texts.{Laid}
use Rattle.texts.specs.Outputs.{Prints}
use Rattle.texts.specs.declared.Output.{Output}

-- no text
pub laid_none : (m : List ℕ) (a : ℕ) → Laid m a [] m a
laid_none m a = record { bytes = refl; behind = omega arith }

-- a text behind another
pub laid_then : {m n o xs ys : List ℕ} {a b c : ℕ} → Laid m a xs n b → Laid n b ys o c → Laid m a (xs ++ ys) o c
laid_then {m} {n} {o} {xs} {ys} {a} {b} {c} h g =
    record {
      bytes = g.bytes ∙ ap₂ (λ (s : List ℕ) (i : ℕ). sets s i ys) h.bytes h.behind ∙ sym (sets_append xs ys m a);
      behind = omega (arith, h.behind, g.behind, length-append xs ys);
    }

-- bytes keep their number
pub laid_size : {m n xs : List ℕ} {a b : ℕ} → Laid m a xs n b → length n ≡ length m
laid_size {m} {n} {xs} {a} h = ap length h.bytes ∙ length-sets m a xs

-- a text may be given by one that it equals
pub laid_as : {m n xs ys : List ℕ} {a b : ℕ} → xs ≡ ys → Laid m a xs n b → Laid m a ys n b
laid_as {m} {n} {xs} {ys} {a} {b} e h = rw e at h

-- ---- output

-- no text
pub prints_none : (o : Output) → Prints o [] o
prints_none o = record { laid = laid_none o.buffer.now o.used; same_size = refl; same_buffer = refl }

-- a text laid in lent bytes
pub prints_by : {a b : Output} {xs : List ℕ} → Laid a.buffer.now a.used xs b.buffer.now b.used → b.buffer.ghost_name ≡ a.buffer.ghost_name
    → Prints a xs b
prints_by h e = record { laid = h; same_size = laid_size h; same_buffer = e }

-- a text behind another
pub prints_then : {a b c : Output} {xs ys : List ℕ} → Prints a xs b → Prints b ys c → Prints a (xs ++ ys) c
prints_then h g =
    record { laid = laid_then h.laid g.laid; same_size = g.same_size ∙ h.same_size; same_buffer = g.same_buffer ∙ h.same_buffer }

-- a text may be given by one that it equals
pub prints_as : {a b : Output} {xs ys : List ℕ} → xs ≡ ys → Prints a xs b → Prints a ys b
prints_as e h = rw e at h

-- ---- digits

-- as few digits as hold a number are no more than hold it
fewest_most : (b least n k m : ℕ) → 0 < b → IsDigitCount b least n k → least ≤ m → n < b ^ m → k ≤ m
fewest_most b least n k m p f l h =
    ⊎_elim (λ e. omega arith)
    (λ (more : 0 < k - m).
    let shorter : m ≤ k - 1 = omega arith in
    absurd (omega (arith, pow-le-pow_right p shorter, f.2 (omega arith))))
    (eq-zero-or-pos (k - m))

-- and no fewer
fewest_least : (b least n k m : ℕ) → 0 < b → IsDigitCount b least n k → b ^ m ≤ n → m < k
fewest_least b least n k m p f h =
    ⊎_elim (λ (none : k - m ≡ 0). let longer : k ≤ m = omega arith in absurd (omega (arith, pow-le-pow_right p longer, f.1, h)))
    (λ (more : 0 < k - m). omega arith)
    (eq-zero-or-pos (k - m))

module _ (n k : ℕ) (f : IsDigitCount 10 1 n k) (h : n < 1000) where
  pub decimal_most : k ≤ 3
  decimal_most = fewest_most 10 1 n k 3 (lit< tt) f (omega arith) h

  pub decimal_count : k ≡ cond (ltb n 10) 1 (cond (ltb n 100) 2 3)
  decimal_count = by (ltb n 10) refl (ltb n 100) refl
    where
      by : (t : Bool) → ltb n 10 ≡ t → (u : Bool) → ltb n 100 ≡ u → k ≡ cond t 1 (cond u 2 3)
      by true e u g = le_antisymm (fewest_most 10 1 n k 1 (lit< tt) f (le_refl 1) (ltb-true n 10 e)) f.0
      by false e true g =
          le_antisymm (fewest_most 10 1 n k 2 (lit< tt) f (omega arith) (ltb-true n 100 g)) (fewest_least 10 1 n k 1 (lit< tt) f (ltb-false n 10 e))
      by false e false g = le_antisymm decimal_most (fewest_least 10 1 n k 2 (lit< tt) f (ltb-false n 100 g))

pub hex_count : (n w k : ℕ) → IsDigitCount 16 (min (max w 1) 16) n k → (0 < w) × (w ≤ 16) × (n < 16 ^ w) → k ≡ w
hex_count n w k f h =
    let least : min (max w 1) 16 ≡ w = omega arith in
    le_antisymm (fewest_most 16 (min (max w 1) 16) n k w (lit< tt) f (omega arith) h.2) (omega (arith, f.0))

-- ---- a text copied into a part of the bytes

-- a text as long as a part of the bytes overwrites all of it
pub over_all : (t m : List ℕ) (a : ℕ) → t ≡ take (length t) t ++ drop (length t) (take (a + length t - a) (drop a m))
over_all t m a =
    let most : length (take (a + length t - a) (drop a m)) ≤ length t = omega (arith, length-take (a + length t - a) (drop a m)) in
    rw (drop_of_length-le (take (a + length t - a) (drop a m)) most, take-length, append-nil) refl

-- the part from place a on is as long as the text, and was overwritten by it
pub laid_part : {m p t : List ℕ} {a : ℕ} → a + length t ≤ length m
    → p ≡ take (length t) t ++ drop (length t) (take (a + length t - a) (drop a m))
    → Laid m a t (take a m ++ (p ++ drop (a + length t - a) (drop a m))) (a + length t)
laid_part {m} {p} {t} {a} h f =
    let size : a + length t - a ≡ length t = omega arith in
    let most : length (take (length t) (drop a m)) ≤ length t = omega (arith, length-take (length t) (drop a m)) in
    let none : drop (length t) (take (length t) (drop a m)) ≡ [] = drop_of_length-le _ most in
    let part : p ≡ t = f ∙ rw (size, none, take-length, append-nil) in
    record {
      bytes = rw (part, size, drop-drop) (sym (append_assoc (take a m) t _) ∙ sym (sets-eq t m a h));
      behind = refl;
    }
