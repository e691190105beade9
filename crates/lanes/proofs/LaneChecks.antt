-- The folds of four words give their four check bytes: by a test of each bit of a word, since all that is folded is additive.
-- Assumes nothing.
use Rattle.std.specs.Prelude.{◌≡◌, T, eqb}
use Rattle.std.proofs.Common.{ap, ap₂, ◌∙◌, mul-one}
use Prim.Native.Nat.{ℕ, ◌*◌, ◌^◌, ◌<◌}
use Rattle.std.specs.Int.Bits.{bit_xor}
use Rattle.code.specs.TestLaws.{each}
use Rattle.code.specs.AdditiveLaws.{Additive, additive_mul, additive_of, split_four, bits_equal}
use Rattle.code.specs.Code.{times_x, remainder_in, remainder, check_of}
use Rattle.code.proofs.CodeLaws.{check_lt, check_xor}
use Rattle.lanes.specs.Lanes.{lanes, swap_from, swapped, fold_lanes, fold_pairs, fold_halves, fold_quarters, times_byte, last_folds, all_folds}
use Rattle.lanes.proofs.LaneLaws.{all_four, swapped_xor, lanes_xor}

-- the check byte of a word, in the lane from bit k on
check_up : ℕ → ℕ → ℕ
check_up k w = check_of (swapped w) * 2 ^ k

check_up_xor : (k : ℕ) → Additive (check_up k)
unfolding check_up
check_up_xor k =
    additive_of (λ w. check_of w * 2 ^ k) swapped (additive_of (λ x. x * 2 ^ k) check_of (additive_mul k) check_xor) swapped_xor

-- f of a word in one place alone, at each of its bits
abbrev tested : (ℕ → ℕ) → ℕ → Type 0
tested f k = T (each (λ i. eqb (f (2 ^ i)) (check_up k (2 ^ i))) 64)

test₁ : tested (λ w. all_folds w 0 0 0) 0
unfolding all_folds last_folds fold_lanes fold_pairs fold_halves fold_quarters times_byte check_up swapped swap_from check_of remainder remainder_in times_x
test₁ = tt

-- f of a word in another place is that of the first place, in the lane from bit k on
abbrev beside : (ℕ → ℕ) → ℕ → Type 0
beside f k = T (each (λ i. eqb (f (2 ^ i)) (all_folds (2 ^ i) 0 0 0 * 2 ^ k)) 64)

test₂ : beside (λ w. all_folds 0 w 0 0) 16
unfolding all_folds last_folds fold_lanes fold_pairs fold_halves fold_quarters times_byte
test₂ = tt

test₃ : beside (λ w. all_folds 0 0 w 0) 32
unfolding all_folds last_folds fold_lanes fold_pairs fold_halves fold_quarters times_byte
test₃ = tt

test₄ : beside (λ w. all_folds 0 0 0 w) 48
unfolding all_folds last_folds fold_lanes fold_pairs fold_halves fold_quarters times_byte
test₄ = tt

in_place : (f : ℕ → ℕ) (k : ℕ) → Additive f → tested f k → (w : ℕ) → w < 2 ^ 64 → f w ≡ check_up k w
in_place f k h t = bits_equal f (check_up k) h (check_up_xor k) 64 t

in_lane : (f : ℕ → ℕ) (k : ℕ) → Additive f → beside f k → (w : ℕ) → w < 2 ^ 64 → f w ≡ check_up k w
unfolding check_up
in_lane f k h t w l =
    let first : Additive (λ x. all_folds x 0 0 0) = λ x y. all_four.law x 0 0 0 y 0 0 0 in
    bits_equal f (λ x. all_folds x 0 0 0 * 2 ^ k) h (additive_of (λ x. x * 2 ^ k) (λ x. all_folds x 0 0 0) (additive_mul k) first) 64 t w l
    ∙ ap (λ (x : ℕ). x * 2 ^ k) (in_place (λ x. all_folds x 0 0 0) 0 first test₁ w l ∙ mul-one (check_of (swapped w)))

-- the folds of four words give their four check bytes
pub all_checks : (a b c d : ℕ) → a < 2 ^ 64 → b < 2 ^ 64 → c < 2 ^ 64 → d < 2 ^ 64
    → all_folds a b c d ≡ lanes (check_of (swapped a)) (check_of (swapped b)) (check_of (swapped c)) (check_of (swapped d))
unfolding check_up
all_checks a b c d ha hb hc hd =
    split_four all_folds all_four a b c d
    ∙ ap₂ bit_xor (in_place (λ w. all_folds w 0 0 0) 0 (λ x y. all_four.law x 0 0 0 y 0 0 0) test₁ a ha)
    (ap₂ bit_xor (in_lane (λ w. all_folds 0 w 0 0) 16 (λ x y. all_four.law 0 x 0 0 0 y 0 0) test₂ b hb)
    (ap₂ bit_xor (in_lane (λ w. all_folds 0 0 w 0) 32 (λ x y. all_four.law 0 0 x 0 0 0 y 0) test₃ c hc)
    (in_lane (λ w. all_folds 0 0 0 w) 48 (λ x y. all_four.law 0 0 0 x 0 0 0 y) test₄ d hd)))
    ∙ lanes_xor (check_of (swapped a)) (check_of (swapped b)) (check_of (swapped c)) (check_of (swapped d))
    (check_lt (swapped a)) (check_lt (swapped b)) (check_lt (swapped c))
