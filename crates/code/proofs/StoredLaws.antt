-- Laws of nine stored bytes: what is added, taken off and put on (document 02, Req 06), and what 55h does for a chip that has no power.
-- Assumes nothing.
use Rattle.std.specs.Prelude.{◌≡◌, refl, ℕ, ◌-◌, ◌*◌, ◌^◌, ◌<◌}
use Rattle.std.proofs.Common.{sym, ◌∙◌}
use Rattle.std.proofs.Math.Path.{ap}
use Rattle.std.specs.Int.Bits.{bit_xor, xor_lt, xor_shifted}
use Rattle.std.proofs.lemmas.Nat.{xor_comm}
use Rattle.code.specs.XorLaws.{xor_assoc, xor_cancel_r}
use Rattle.code.specs.Code.{cell, times_x, remainder_in, remainder, syndrome_of, is_codeword, check_of, added_pattern, stored_check, without_added, syndrome_at, position_from, position_of, status_at, status_of}
use Rattle.code.proofs.CodeLaws.{check_lt, check_makes}
use Rattle.code.proofs.StatusLaws.{status_damaged}
use Rattle.code.specs.declared.Status.TheVariants.{Sound, Beyond}

-- a byte xored into a check byte is xored into the nine bytes
pub cell_xor : (w b a : ℕ) → b < 256 → a < 256 → cell w (bit_xor b a) ≡ bit_xor (cell w b) a
cell_xor w b a hb ha =
    sym (xor_shifted w 8 (bit_xor b a) (xor_lt 8 b a hb ha)) ∙ sym (xor_assoc (w * 256) b a)
    ∙ ap (λ (x : ℕ). bit_xor x a) (xor_shifted w 8 b hb)

-- what is taken off is put on again by the same
pub without_twice : (a e : ℕ) → without_added a (without_added a e) ≡ e
unfolding without_added
without_twice a e = xor_cancel_r e a

-- ---- the stored check byte

module _ (a : ℕ) (fits : a < 256) where
  pub stored_lt : (w : ℕ) → stored_check a w < 256
  unfolding stored_check
  stored_lt w = xor_lt 8 (check_of w) a (check_lt w) fits

  -- a word beside its stored check byte is its codeword once what is added is taken off
  pub stored_without : (w : ℕ) → without_added a (cell w (stored_check a w)) ≡ cell w (check_of w)
  unfolding without_added stored_check
  stored_without w = ap (λ (x : ℕ). bit_xor x a) (cell_xor w (check_of w) a (check_lt w) fits) ∙ xor_cancel_r (cell w (check_of w)) a

  -- The difference of a stored codeword and any nine bytes z has the status of z. So a chip that sends the same nine bytes whatever it held
  -- has damage of one status.
  pub status_stored : (w z : ℕ) → status_of (bit_xor (cell w (stored_check a w)) z) ≡ status_of (without_added a z)
  unfolding without_added stored_check
  status_stored w z =
      ap (λ (x : ℕ). status_of (bit_xor x z)) (cell_xor w (check_of w) a (check_lt w) fits)
      ∙ ap status_of (xor_assoc (cell w (check_of w)) a z)
      ∙ status_damaged (cell w (check_of w)) (bit_xor a z) (check_makes w)
      ∙ ap status_of (xor_comm a z)

-- ---- a chip that has no power

-- nine zero bytes are beyond mending, and so are nine bytes FFh
pub zeros_beyond : status_of (without_added added_pattern 0) ≡ Beyond
unfolding without_added status_of status_at is_codeword position_of position_from syndrome_at syndrome_of remainder remainder_in times_x
zeros_beyond = refl

pub ones_beyond : status_of (without_added added_pattern (2 ^ 72 - 1)) ≡ Beyond
unfolding without_added status_of status_at is_codeword position_of position_from syndrome_at syndrome_of remainder remainder_in times_x
ones_beyond = refl

-- without 55h nine zero bytes pass as a codeword
pub zeros_pass : status_of (without_added 0 0) ≡ Sound
unfolding without_added status_of is_codeword syndrome_of remainder remainder_in
zeros_pass = refl
