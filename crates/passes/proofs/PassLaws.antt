-- Laws of the passes: the flagged chips are those that hold no codeword, and the collisions codewords whose word is the catch-word.
-- Assumes nothing.
use Rattle.std.proofs.Common.{◌≡◌, Bool, not, ◌&&◌, ◌||◌, cond, List, ℕ, ◌/◌, ◌<◌, eqb, refl, sym, ap, ◌∙◌, eq-eqb, ne_eqb, eqb-true, true, false, arith}
use Rattle.std.proofs.lemmas.Bool.{eqb-false, false_from_ne_true, not-true, not-false}
use Rattle.code.specs.Code.{is_codeword}
use Rattle.code.proofs.CodeLaws.{codeword_syndrome}
use Rattle.code.proofs.MendLaws.{mended_word_codeword}
use Rattle.code.proofs.StatusLaws.{codeword_mends}
use Rattle.code.specs.XorLaws.{xor_zero_eq}
use Rattle.cells.specs.Chips.{xor_all, count, mask}
use Rattle.cells.specs.Cells.{word_at, cell_at}
use Rattle.words.specs.Bytes.{Bytes}
use Rattle.cells.specs.CellLaws.{held_word_lem}
use Rattle.cells.specs.ChipLaws.{xor_all_ext, xor_all_but, count_ext, mask_ext, count_one}
use Rattle.passes.specs.Passes.{sends, sent_at, catch_word, pass_one, is_candidate, complement, pass_two, sent_complement, is_flagged, is_collision, flagged_chips, xor_others, pass_three, chip_status, is_flagged_beyond, beyond_chips, is_unsound, held_word, mended_at, beyond_at, holds_catch_word}

-- ---- what a chip sends

-- a chip that holds a codeword sends its word in pass one, whatever its catch-word
pub sent_word : (m cws : List ℕ) (k : ℕ) → is_unsound m k ≡ false → pass_one m cws k ≡ cell_at m k / 256
unfolding is_unsound pass_one sent_at sends
sent_word m cws k h = rw (not-false (is_codeword (cell_at m k)) h)

-- the same, of bytes
pub sent_held : (m cws : List ℕ) (k : ℕ) → Bytes m → is_unsound m k ≡ false → pass_one m cws k ≡ word_at m k
sent_held m cws k bytes e = sent_word m cws k e ∙ held_word_lem m k bytes

-- one that holds no codeword sends its catch-word
pub sent_catch_word : (m cws : List ℕ) (k : ℕ) → is_unsound m k ≡ true → pass_one m cws k ≡ catch_word cws k
unfolding is_unsound pass_one sent_at sends
sent_catch_word m cws k h = rw (not-true (is_codeword (cell_at m k)) h)

-- any chip sends M of its nine bytes in pass three
pub third_sent : (m cws : List ℕ) (k : ℕ) → pass_three m cws k ≡ mended_at m k
unfolding pass_three sent_at sends
third_sent m cws k = refl

-- M of a codeword's nine bytes is its word
pub sound_mended : (m : List ℕ) (k : ℕ) → is_unsound m k ≡ false → mended_at m k ≡ held_word m k
unfolding is_unsound
sound_mended m k h = mended_word_codeword (cell_at m k) (codeword_syndrome (cell_at m k) (not-false (is_codeword (cell_at m k)) h))

-- a chip that holds a codeword is not beyond mending
pub sound_mends : (m : List ℕ) (k : ℕ) → is_unsound m k ≡ false → beyond_at m k ≡ false
unfolding is_unsound chip_status
sound_mends m k h = codeword_mends (cell_at m k) (not-false (is_codeword (cell_at m k)) h)

-- ---- which chips are flagged

first_alone : (p q : Bool) → (p && q) ≡ false → (p && not q) ≡ p
first_alone true true e = sym e
first_alone true false e = refl
first_alone false q e = refl

-- b stands for whether a chip holds a codeword, w for its word, x for its catch-word and y for the complement
module _ (w x y : ℕ) (ne : x ≡ y → ⊥) where
  both : (b : Bool) → eqb w x ≡ b → (b && eqb w y) ≡ false
  both true e = ne_eqb w y (λ f. ne (sym (eqb-true w x e) ∙ f))
  both false e = refl

  flag_law : (b : Bool) → (eqb (cond b w x) x && eqb (cond b w y) y) ≡ not b
  flag_law true = both (eqb w x) refl
  flag_law false = rw (eq-eqb x x refl, eq-eqb y y refl)

  collision_law : (b : Bool) → (eqb (cond b w x) x && not (eqb (cond b w y) y)) ≡ (b && eqb w x)
  collision_law true = first_alone (eqb w x) (eqb w y) (both (eqb w x) refl)
  collision_law false = rw (eq-eqb x x refl, eq-eqb y y refl)

candidate_law : (w x : ℕ) (b : Bool) → eqb (cond b w x) x ≡ (not b || (b && eqb w x))
candidate_law w x true = refl
candidate_law w x false = eq-eqb x x refl

module _ (m cws : List ℕ) where
  complement_ne : (k : ℕ) → catch_word cws k ≡ complement cws k → ⊥
  unfolding complement
  complement_ne k e = omega arith

  -- the flagged chips are those that hold no codeword
  pub flagged_is : (k : ℕ) → is_flagged m cws k ≡ is_unsound m k
  unfolding is_flagged is_candidate sent_complement pass_one pass_two sent_at sends is_unsound
  flagged_is k = flag_law (held_word m k) (catch_word cws k) (complement cws k) (complement_ne k) (is_codeword (cell_at m k))

  -- the collisions are those whose codeword's word is their catch-word
  pub collides_is : (k : ℕ) → is_collision m cws k ≡ holds_catch_word m cws k
  unfolding is_collision is_candidate sent_complement pass_one pass_two sent_at sends holds_catch_word
  collides_is k = collision_law (held_word m k) (catch_word cws k) (complement cws k) (complement_ne k) (is_codeword (cell_at m k))

  -- the candidates are the chips of both kinds
  pub candidate_is : (k : ℕ) → is_candidate m cws k ≡ (is_unsound m k || holds_catch_word m cws k)
  unfolding is_candidate pass_one sent_at sends is_unsound holds_catch_word
  candidate_is k = candidate_law (held_word m k) (catch_word cws k) (is_codeword (cell_at m k))

  -- the flagged chips' mask is that of the chips that hold no codeword
  pub flagged_mask_lem : mask (is_flagged m cws) 9 ≡ mask (is_unsound m) 9
  flagged_mask_lem = mask_ext (is_flagged m cws) (is_unsound m) 9 (λ k _. flagged_is k)

  -- the collisions' mask is that of the chips whose codeword's word is their catch-word
  pub collisions_mask : mask (is_collision m cws) 9 ≡ mask (holds_catch_word m cws) 9
  collisions_mask = mask_ext (is_collision m cws) (holds_catch_word m cws) 9 (λ k _. collides_is k)

  -- as many chips are flagged as hold no codeword
  pub flagged_count : flagged_chips m cws ≡ count (is_unsound m) 9
  unfolding flagged_chips
  flagged_count = count_ext (is_flagged m cws) (is_unsound m) 9 (λ k _. flagged_is k)

-- ---- which chips are beyond mending

module _ (m cws : List ℕ) where
  -- the flagged chips beyond mending are the chips beyond mending
  pub flagged_beyond_is : (k : ℕ) → is_flagged_beyond m cws k ≡ beyond_at m k
  unfolding is_flagged_beyond
  flagged_beyond_is k = ap (λ (b : Bool). b && beyond_at m k) (flagged_is m cws k) ∙ pick (is_unsound m k) refl
    where
      pick : (b : Bool) → is_unsound m k ≡ b → (b && beyond_at m k) ≡ beyond_at m k
      pick true e = refl
      pick false e = sym (sound_mends m k e)

  pub beyond_chips_count : beyond_chips m cws ≡ count (beyond_at m) 9
  unfolding beyond_chips
  beyond_chips_count = count_ext (is_flagged_beyond m cws) (beyond_at m) 9 (λ k _. flagged_beyond_is k)

-- ---- the xor of the other chips

-- the xor of the chips other than k is the same for two functions that agree at those
pub others_ext : (f g : ℕ → ℕ) (k : ℕ) → ((j : ℕ) → j < 9 → (j ≡ k → ⊥) → f j ≡ g j) → xor_others f k ≡ xor_others g k
unfolding xor_others
others_ext f g k h = xor_all_ext _ _ 9 (λ j l. pick j l (eqb j k) refl)
  where
    pick : (j : ℕ) → j < 9 → (t : Bool) → eqb j k ≡ t → cond t 0 (f j) ≡ cond t 0 (g j)
    pick j l true e = refl
    pick j l false e = h j l (eqb-false j k e)

-- where all nine xor to zero, each is the xor of the other eight
pub others_cancel : (f : ℕ → ℕ) → xor_all f 9 ≡ 0 → (k : ℕ) → k < 9 → xor_others f k ≡ f k
unfolding xor_others
others_cancel f e k h = xor_zero_eq _ (f k) (sym (xor_all_but f 9 k h) ∙ e)

-- where one chip holds no codeword, the others do
pub others_sound : (m : List ℕ) → count (is_unsound m) 9 ≡ 1 → (k : ℕ) → k < 9 → is_unsound m k ≡ true
    → (j : ℕ) → j < 9 → (j ≡ k → ⊥) → is_unsound m j ≡ false
others_sound m c k h e j l ne = false_from_ne_true (is_unsound m j) (λ f. ne (count_one (is_unsound m) 9 (omega arith) j k l h f e))
