-- What loops over the chips of a mask keep: pass one, a turn for each chip that holds no codeword, and pass three, one for each flagged chip.
-- Assumes nothing.
use Rattle.std.proofs.Common.{◌≡◌, refl, sym, ap, ap₂, ◌∙◌, Bool, true, false, not, ◌&&◌, ◌||◌, cond, true≢false, List, ℕ, ◌*◌, ◌^◌, ◌<◌, arith, bit_or, bit_xor, eqb, length, get_or, set, length-set, get_or-set_same, get_or-set_other, eqb-true}
use Rattle.std.proofs.Math.Bool.{or-false}
use Rattle.std.proofs.lemmas.Bool.{eqb-false}
use Rattle.code.specs.XorLaws.{xor_assoc}
use Rattle.cells.specs.Chips.{xor_all, bit, mask, in_mask, AtPlaces}
use Rattle.cells.specs.ChipLaws.{xor_all_ext, xor_all_change, mask_ext, mask_zero}
use Rattle.cells.specs.MaskLaws.{TakenOff, mask_with, no_member}
use Rattle.cells.proofs.Loops.{Pending, pending_all, pending_next, rest_own, rest_other, member_is}
use Rattle.passes.specs.Passes.{catch_word, pass_one, pass_three, is_flagged, is_flagged_beyond, is_unsound, mended_at, beyond_at}
use Rattle.passes.proofs.PassLaws.{sent_word, sent_catch_word, third_sent, sound_mended, sound_mends, flagged_is, flagged_beyond_is}

-- ---- values put at the places of a mask's chips

-- s has f at the place of each chip that passes p, but for those of `rest`
pub record Put (p : ℕ → Bool) (f : ℕ → ℕ) (rest : ℕ) (s : List ℕ) : Type 0 where
  pub size : length s ≡ 9
  pub done : (k : ℕ) → k < 9 → p k ≡ true → in_mask rest k ≡ false → get_or s k 0 ≡ f k

pub put_none : (p : ℕ → Bool) (f : ℕ → ℕ) {rest : ℕ} {s : List ℕ} → rest ≡ mask p 9 → length s ≡ 9 → Put p f rest s
put_none p f e n =
    record { size = n; done = λ k l t o. absurd (true≢false (sym t ∙ sym (member_is p e l refl) ∙ o)) }

pub put_more : {p : ℕ → Bool} {f : ℕ → ℕ} {rest k t v : ℕ} {s : List ℕ} → Put p f rest s → TakenOff rest k t → v ≡ f k → Put p f t (set s k v)
put_more {p} {f} {rest} {k} {t} {v} {s} h l e =
    record { size = length-set s k v ∙ h.size; done = λ i b u o. pick i b u o (eqb i k) refl }
  where
    pick : (i : ℕ) → i < 9 → p i ≡ true → in_mask t i ≡ false → (b : Bool) → eqb i k ≡ b → get_or (set s k v) i 0 ≡ f i
    pick i b u o true q =
        let own : i ≡ k = eqb-true i k q in
        ap (λ (j : ℕ). get_or (set s k v) j 0) own ∙ get_or-set_same s k v 0 (omega (arith, h.size, l.below)) ∙ e ∙ ap f (sym own)
    pick i b u o false q =
        let ne : i ≡ k → ⊥ = eqb-false i k q in
        get_or-set_other s k i v 0 ne ∙ h.done i b u (sym (rest_other l i b ne) ∙ o)

pub put_all : {p : ℕ → Bool} {f : ℕ → ℕ} {rest : ℕ} {s : List ℕ} → Put p f rest s → rest ≡ 0 → AtPlaces p f s 9
put_all h e = record { at = λ k l t. h.done k l t (ap (λ (m : ℕ). in_mask m k) e ∙ no_member k l) }

-- ---- one value for another in an xor

-- the chips of `rest` pass p and have not had their turn: `left` is the xor of f for them and of g for the others
pub record Exchanged (p : ℕ → Bool) (f g : ℕ → ℕ) (rest left : ℕ) : Type 0 where
  pub pending : Pending p rest
  pub parity : left ≡ xor_all (λ k. cond (in_mask rest k) (f k) (g k)) 9

pub exchanged_none : (p : ℕ → Bool) (f g : ℕ → ℕ) {rest left : ℕ} → rest ≡ mask p 9 → ((k : ℕ) → k < 9 → p k ≡ false → f k ≡ g k) → left ≡ xor_all f 9
    → Exchanged p f g rest left
exchanged_none p f g {rest} e same q =
    record { pending = pending_all p e; parity = q ∙ xor_all_ext _ _ 9 (λ k l. all k l (in_mask rest k) refl) }
  where
    all : (k : ℕ) → k < 9 → (b : Bool) → in_mask rest k ≡ b → f k ≡ cond b (f k) (g k)
    all k l true o = refl
    all k l false o = same k l (sym (member_is p e l refl) ∙ o)

pub exchanged_more : {p : ℕ → Bool} {f g : ℕ → ℕ} {rest left k t x y : ℕ} → Exchanged p f g rest left → TakenOff rest k t → x ≡ f k → y ≡ g k
    → Exchanged p f g t (bit_xor left (bit_xor x y))
exchanged_more {p} {f} {g} {rest} {left} {k} {t} {x} {y} h l ex ey =
    let before : ℕ → ℕ = λ i. cond (in_mask rest i) (f i) (g i) in
    let after : ℕ → ℕ = λ i. cond (in_mask t i) (f i) (g i) in
    record {
      pending = pending_next h.pending l;
      parity =
          sym (xor_assoc left x y)
          ∙ ap₂ (λ (a b : ℕ). bit_xor (bit_xor a b) y) h.parity (ex ∙ ap (λ (c : Bool). cond c (f k) (g k)) (sym l.member))
          ∙ ap (bit_xor (bit_xor (xor_all before 9) (before k))) (ey ∙ ap (λ (c : Bool). cond c (f k) (g k)) (sym (rest_own l)))
          ∙ xor_all_change before after 9 k l.below (λ i u ne. ap (λ (c : Bool). cond c (f i) (g i)) (sym (rest_other l i u ne)));
    }

pub exchanged_all : {p : ℕ → Bool} {f g : ℕ → ℕ} {rest left : ℕ} → Exchanged p f g rest left → rest ≡ 0 → left ≡ xor_all g 9
exchanged_all {p} {f} {g} h e =
    h.parity ∙ xor_all_ext _ _ 9 (λ k l. ap (λ (c : Bool). cond c (f k) (g k)) (ap (λ (x : ℕ). in_mask x k) e ∙ no_member k l))

-- ---- m stands for the line's bytes, cws for the catch-words

module _ (m cws : List ℕ) where
  -- a chip that is not flagged sends the same in pass one and in pass three
  same_sent : (k : ℕ) → is_flagged m cws k ≡ false → pass_one m cws k ≡ pass_three m cws k
  same_sent k e =
      let sound : is_unsound m k ≡ false = sym (flagged_is m cws k) ∙ e in
      sent_word m cws k sound ∙ sym (sound_mended m k sound) ∙ sym (third_sent m cws k)

  -- which of the others are beyond mending
  pub among : ℕ → ℕ → Bool
  among rest k = not (in_mask rest k) && beyond_at m k

  -- the flagged chips of `rest` have not sent in pass three; the xor of what was sent, and the chips found beyond mending, are those of the
  -- others
  pub record Sent (rest left beyond : ℕ) : Type 0 where
    pub xor : Exchanged (is_flagged m cws) (pass_one m cws) (pass_three m cws) rest left
    pub found : beyond ≡ mask (among rest) 9

  pub sent_none : {rest left : ℕ} → rest ≡ mask (is_flagged m cws) 9 → left ≡ xor_all (pass_one m cws) 9 → Sent rest left 0
  unfolding among
  sent_none {rest} e p =
      record {
        xor = exchanged_none _ _ _ e (λ k _. same_sent k) p;
        found = sym (mask_zero _ 9 (λ k l. none k l (in_mask rest k) refl));
      }
    where
      none : (k : ℕ) → k < 9 → (b : Bool) → in_mask rest k ≡ b → (not b && beyond_at m k) ≡ false
      none k l true o = refl
      none k l false o = sound_mends m k (sym (flagged_is m cws k) ∙ sym (member_is (is_flagged m cws) e l refl) ∙ o)

  pub sent_more : {rest left beyond k t w : ℕ} {b : Bool} → Sent rest left beyond → TakenOff rest k t → w ≡ mended_at m k → b ≡ beyond_at m k
      → {v : ℕ} → v ≡ bit b * 2 ^ k → Sent t (bit_xor left (bit_xor (catch_word cws k) w)) (bit_or beyond v)
  unfolding among
  sent_more {rest} {left} {beyond} {k} {t} {w} {b} h l ew eb {v} ev =
      let flagged : is_flagged m cws k ≡ true = h.xor.pending.chips k l.below l.member in
      record {
        xor = exchanged_more h.xor l (sym (sent_catch_word m cws k (sym (flagged_is m cws k) ∙ flagged))) (ew ∙ sym (third_sent m cws k));
        found =
            ap₂ bit_or h.found (ev ∙ ap (λ (c : Bool). bit c * 2 ^ k) eb)
            ∙ mask_with (among rest) (beyond_at m k) k l.below
            ∙ mask_ext _ (among t) 9 (λ i u. put i u (eqb i k) refl);
      }
    where
      put : (i : ℕ) → i < 9 → (e : Bool) → eqb i k ≡ e → ((not (in_mask rest i) && beyond_at m i) || (e && beyond_at m k)) ≡ (not (in_mask t i) && beyond_at m i)
      put i u true q =
          let own : i ≡ k = eqb-true i k q in
          ap₂ (λ (c : Bool) (j : ℕ). (not c && beyond_at m i) || beyond_at m j) (ap (in_mask rest) own ∙ l.member) (sym own)
          ∙ ap (λ (c : Bool). not c && beyond_at m i) (sym (ap (in_mask t) own ∙ rest_own l))
      put i u false q =
          or-false _ ∙ ap (λ (c : Bool). not c && beyond_at m i) (sym (rest_other l i u (eqb-false i k q)))

  pub sent_all : {rest left beyond : ℕ} → Sent rest left beyond → rest ≡ 0
      → (left ≡ xor_all (pass_three m cws) 9) × (beyond ≡ mask (is_flagged_beyond m cws) 9)
  unfolding among
  sent_all {rest} h e =
      let none : (k : ℕ) → k < 9 → in_mask rest k ≡ false = λ k l. ap (λ (x : ℕ). in_mask x k) e ∙ no_member k l in (
        exchanged_all h.xor e,
        h.found ∙ mask_ext _ _ 9 (λ k l. ap (λ (c : Bool). not c && beyond_at m k) (none k l) ∙ sym (flagged_beyond_is m cws k)),
      )
