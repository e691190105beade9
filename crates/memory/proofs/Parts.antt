-- A line's 81 bytes, lent as a part of the memory and put back. Assumes nothing.
use mathlib.Core.Path.{◌≡◌, sym, ap, ◌∙◌}
use mathlib.Core.List.{List, ◌++◌, append_assoc}
use Prim.Native.Nat.{ℕ, ◌+◌, ◌*◌, ◌≤◌}
use native.Mathlib.Omega.{arith}
use lib.ListN.{length, take, drop}
use lib.Seq.{sets-eq, drop-drop}
use Rattle.std.specs.Array.{IsWholeChunk}
use Rattle.words.specs.Bytes.{bytes_from}
use Rattle.memory.specs.Lines.{line_at, with_line}

-- b is the memory m from place i on, where line l begins
module _ (m : List ℕ) (l : ℕ) {i : ℕ} {b : List ℕ} (start : i ≡ 81 * l) (behind : b ≡ drop i m) where
  -- what is lent
  pub lent : {x y : List ℕ} → y ≡ take 81 b → IsWholeChunk y x 81 → x ≡ line_at m l
  unfolding line_at bytes_from
  lent part whole = whole.same ∙ part ∙ (λ j. take 81 (behind j)) ∙ ap (λ (n : ℕ). take 81 (drop n m)) start

  -- what is put back, between the bytes before the line and those after it
  pub put_back : {a d y z : List ℕ} → 81 * l + 81 ≤ length m → a ≡ take i m → d ≡ drop 81 b → y ≡ z → length z ≡ 81 → a ++ (y ++ d) ≡ with_line m l z
  unfolding with_line
  put_back {z = z} fits before after left size =
      (λ j. before j ++ (left j ++ after j))
      ∙ (λ j. take i m ++ (z ++ drop 81 (behind j)))
      ∙ ap (λ (n : ℕ). take i m ++ (z ++ drop n (drop i m))) (sym size)
      ∙ ap (λ (x : List ℕ). take i m ++ (z ++ x)) (drop-drop (length z) i m)
      ∙ sym (append_assoc (take i m) z (drop (i + length z) m))
      ∙ ap (λ (n : ℕ). (take n m ++ z) ++ drop (n + length z) m) start
      ∙ sym (sets-eq z m (81 * l) (omega arith))
