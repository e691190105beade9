-- Bytes side by side in a number: masks, xors, and sums and products that stay within a byte act on each byte by itself. Masks and factors
-- are parameters here; the proofs put in the code's.
-- Assumes nothing.
use mathlib.Core.Path.{◌≡◌, refl, sym, ap, ap₂, ◌∙◌, subst}
use mathlib.Core.Bool.{Bool, cond}
use Prim.Native.Nat.{ℕ, zero, suc, ◌+◌, ◌*◌, ◌/◌, ◌%◌, ◌^◌, ◌≤◌, ◌<◌}
use native.Mathlib.Nat.{zero-lt-suc, lt_of_le_of_lt, mod-lt, pow-suc, add-mul, mul-add, mul-one, mul-zero, mul_assoc, mul_right_comm, mul-le-mul_right, zero-mul, one-mul, div-add-mod', div-lt_iff_lt-mul}
use native.Mathlib.Omega.{arith}
use lib.Arith.{lt-one}
use lib.Dec.{T, eqb, lit<}
use lib.Bits.{bit_and, bit_or, bit_xor, and_le_r, and_mask, and_block, or_block, or_lt, xor_block, xor_lt}
use Rattle.code.specs.TestLaws.{each, each_equal}
use Rattle.code.specs.XorLaws.{xor_test}
use Rattle.code.specs.Code.{times_x}
use Rattle.code.specs.Walks.{each_byte, mark_if}

-- n times the same byte
unfoldable pub same : ℕ → ℕ → ℕ
same zero b = 0
same (suc n) b = same n b * 256 + b

-- ---- the lowest byte, and those above it

byte_lt : (v : ℕ) → v % 256 < 256
byte_lt v = mod-lt v (zero-lt-suc 255)

above_lt : (n v : ℕ) → v < 256 ^ suc n → v / 256 < 256 ^ n
above_lt n v h = (div-lt_iff_lt-mul (zero-lt-suc 255)).1 (subst (λ (x : ℕ). v < x) (pow-suc 256 n) h)

-- what acts on the lowest byte and on those above it alike acts on each of n bytes
by_bytes : (F : ℕ → ℕ → ℕ) (f : ℕ → ℕ) → F 0 0 ≡ 0 → ((n h b : ℕ) → b < 256 → F (suc n) (h * 256 + b) ≡ F n h * 256 + f b)
    → (n v : ℕ) → v < 256 ^ n → F n v ≡ each_byte n f v
unfolding each_byte
by_bytes F f z step zero v h = ap (F 0) (lt-one h) ∙ z
by_bytes F f z step (suc n) v h =
    ap (F (suc n)) (sym (div-add-mod' v 256)) ∙ step n (v / 256) (v % 256) (byte_lt v)
    ∙ ap (λ (x : ℕ). x * 256 + f (v % 256)) (by_bytes F f z step n (v / 256) (above_lt n v h))

-- ---- bytes that are s

-- the highest bit of each byte of v that is zero, and no other bit
abbrev marks : ℕ → ℕ → ℕ → ℕ
marks low all v = bit_xor (bit_or (bit_or (bit_and v low + low) v) low) all

mark : (b : ℕ) → b < 256 → marks 127 255 b ≡ cond (eqb b 0) 128 0
mark b h = each_equal (marks 127 255) (λ b. cond (eqb b 0) 128 0) 256 tt b h

marks_step : (l a h b : ℕ) → b < 256 → marks (l * 256 + 127) (a * 256 + 255) (h * 256 + b) ≡ marks l a h * 256 + marks 127 255 b
marks_step l a h b p =
    let some : bit_and b 127 ≤ 127 = and_le_r b 127 in
    let more : bit_and b 127 + 127 < 2 ^ 8 = omega arith in
    let or₁ : bit_or (bit_and b 127 + 127) b < 2 ^ 8 = or_lt 8 (bit_and b 127 + 127) b more p in
    let or₂ : bit_or (bit_or (bit_and b 127 + 127) b) 127 < 2 ^ 8 = or_lt 8 (bit_or (bit_and b 127 + 127) b) 127 or₁ (lit< tt) in
    let sum : bit_and h l * 256 + bit_and b 127 + (l * 256 + 127) ≡ (bit_and h l + l) * 256 + (bit_and b 127 + 127) = omega arith in
    rw (and_block 8 h l b 127 p (lit< tt), sum, or_block 8 (bit_and h l + l) h (bit_and b 127 + 127) b more p)
    (ap (λ (x : ℕ). bit_xor x (a * 256 + 255)) (or_block 8 (bit_or (bit_and h l + l) h) l (bit_or (bit_and b 127 + 127) b) 127 or₁ (lit< tt))
    ∙ xor_block 8 (bit_or (bit_or (bit_and h l + l) h) l) a (bit_or (bit_or (bit_and b 127 + 127) b) 127) 255 or₂ (lit< tt))

pub marked : (s : ℕ) → s < 256 → (n v : ℕ) → v < 256 ^ n → marks (same n 127) (same n 255) (bit_xor v (same n s)) ≡ each_byte n (mark_if s) v
unfolding same mark_if
marked s hs =
    by_bytes (λ n v. marks (same n 127) (same n 255) (bit_xor v (same n s))) (mark_if s) refl
    (λ n h b p.
    ap (marks (same (suc n) 127) (same (suc n) 255)) (xor_block 8 h (same n s) b s p hs)
    ∙ marks_step (same n 127) (same n 255) (bit_xor h (same n s)) (bit_xor b s) (xor_lt 8 b s p hs)
    ∙ ap (λ (x : ℕ). marks (same n 127) (same n 255) (bit_xor h (same n s)) * 256 + x)
    (mark (bit_xor b s) (xor_lt 8 b s p hs) ∙ ap (λ (t : Bool). cond t 128 0) (xor_test b s)))

-- s in each byte
pub same_times : (n s : ℕ) → s * same n 1 ≡ same n s
unfolding same
same_times zero s = mul-zero s
same_times (suc n) s =
    mul-add s (same n 1 * 256) 1 ∙ ap₂ ◌+◌ (sym (mul_assoc s (same n 1) 256) ∙ ap (λ (x : ℕ). x * 256) (same_times n s)) (mul-one s)

-- ---- multiplication by x

-- with k for x^8
abbrev pub shifted : ℕ → ℕ → ℕ → ℕ → ℕ
shifted low one k v = bit_xor (bit_and v low * 2) (bit_and (v / 128) one * k)

shifted_step : (l o k h b : ℕ) → k < 256 → b < 256 → shifted (l * 256 + 127) (o * 256 + 1) k (h * 256 + b) ≡ shifted l o k h * 256 + shifted 127 1 k b
shifted_step l o k h b hk p =
    let some : bit_and b 127 ≤ 127 = and_le_r b 127 in
    let left : bit_and b 127 * 2 < 2 ^ 8 = omega arith in
    let top : bit_and (b / 128) 1 * k < 2 ^ 8
    = lt_of_le_of_lt (mul-le-mul_right k (and_le_r (b / 128) 1)) (subst (λ (x : ℕ). x < 256) (sym (one-mul k)) hk) in
    let twice : (bit_and h l * 256 + bit_and b 127) * 2 ≡ bit_and h l * 2 * 256 + bit_and b 127 * 2 = omega arith in
    let rest : h % 128 * 2 + b / 128 < 2 ^ 8 = omega arith in
    let down : (h * 256 + b) / 128 ≡ h / 128 * 256 + (h % 128 * 2 + b / 128) = omega arith in
    let odd : bit_and (h % 128 * 2 + b / 128) 1 ≡ bit_and (b / 128) 1
    = and_mask (h % 128 * 2 + b / 128) 1 ∙ omega arith ∙ sym (and_mask (b / 128) 1) in
    ap₂ bit_xor (ap (λ (x : ℕ). x * 2) (and_block 8 h l b 127 p (lit< tt)) ∙ twice)
    (ap (λ (x : ℕ). x * k)
    (ap (λ (x : ℕ). bit_and x (o * 256 + 1)) down ∙ and_block 8 (h / 128) o (h % 128 * 2 + b / 128) 1 rest (lit< tt)
    ∙ ap (λ (x : ℕ). bit_and (h / 128) o * 256 + x) odd)
    ∙ add-mul (bit_and (h / 128) o * 256) (bit_and (b / 128) 1) k
    ∙ ap (λ (x : ℕ). x + bit_and (b / 128) 1 * k) (mul_right_comm (bit_and (h / 128) o) 256 k))
    ∙ xor_block 8 (bit_and h l * 2) (bit_and (h / 128) o * k) (bit_and b 127 * 2) (bit_and (b / 128) 1 * k) left top

pub shifted_each : (k : ℕ) → k < 256 → T (each (λ b. eqb (shifted 127 1 k b) (times_x b)) 256)
    → (n v : ℕ) → v < 256 ^ n → shifted (same n 127) (same n 1) k v ≡ each_byte n times_x v
unfolding same
shifted_each k hk t =
    by_bytes (λ n v. shifted (same n 127) (same n 1) k v) times_x (zero-mul k)
    (λ n h b p.
    shifted_step (same n 127) (same n 1) k h b hk p
    ∙ ap (λ (x : ℕ). shifted (same n 127) (same n 1) k h * 256 + x) (each_equal (shifted 127 1 k) times_x 256 t b p))
