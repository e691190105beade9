-- Laws of what a line leaves.
-- Assumes nothing.
use Rattle.std.specs.Prelude.{◌≡◌, refl, List, ℕ, zero, suc, Option}
use Rattle.std.proofs.Common.{sym, ap, ap₂, ◌∙◌}
use Rattle.rank.specs.Calls.{Leaves}
use Rattle.visits.specs.Visits.{LeavesRead}
use Rattle.record.specs.declared.Rank.{Rank}
use Rattle.rank.specs.declared.Called.{Called}
use Rattle.visits.specs.declared.ReadResult.{ReadResult}
use Rattle.texts.specs.Texts.{call_text, read_text}
use Rattle.texts.specs.Outputs.{Prints}
use Rattle.texts.specs.TextLaws.{prints_as}
use Rattle.texts.specs.declared.Output.{Output}
use Rattle.answers.specs.Answers.{Reply, call_reply, first_word, read_text_by, read_reply, reply_by, reply_to, Replies}
use Rattle.events.specs.Events.{event_of}
use Rattle.events.specs.declared.Event.{Event}

-- ---- replies

-- a call's
pub call_replies : (letter : ℕ) {c : Leaves Called} {called : Called} {m : List ℕ} {before after : Output}
    → called ≡ c.result → m ≡ c.memory → Prints before (call_text letter called.refusal) after
    → Replies (call_reply letter c) called.rank m before after
unfolding call_reply
call_replies letter {c} {called} e g h =
    record {
      record_is = ap (λ (x : Called). x.rank) e;
      memory_is = g;
      output_is = prints_as (ap (λ (x : Called). call_text letter x.refusal) e) h;
    }

refused : (n : ℕ) (v : LeavesRead) → (n ≡ 0 → ⊥) → call_text 114 n ≡ read_text_by n v
unfolding read_text_by
refused zero v h = absurd (h refl)
refused (suc n) v h = refl

-- a refused read's
pub refused_replies : (v : LeavesRead) {r : ReadResult} {m : List ℕ} {before after : Output}
    → r ≡ v.result → m ≡ v.memory → (r.refusal ≡ 0 → ⊥) → Prints before (call_text 114 r.refusal) after
    → Replies (read_reply v) r.rank m before after
unfolding read_reply
refused_replies v {r} e g not_zero h =
    record {
      record_is = ap (λ (x : ReadResult). x.rank) e;
      memory_is = g;
      output_is = prints_as (refused r.refusal v not_zero ∙ ap (λ (x : ReadResult). read_text_by x.refusal v) e) h;
    }

-- an answered read's
pub answered_replies : (v : LeavesRead) {r : ReadResult} {m b : List ℕ} {before after : Output} {word : ℕ}
    → r ≡ v.result → m ≡ v.memory → b ≡ v.buffer → word ≡ first_word b → r.refusal ≡ 0
    → Prints before (read_text word r.passes r.flagged r.collisions) after
    → Replies (read_reply v) r.rank m before after
unfolding read_reply read_text_by
answered_replies v {r} e g f w is_zero h =
    record {
      record_is = ap (λ (x : ReadResult). x.rank) e;
      memory_is = g;
      output_is =
          prints_as
          (ap₂ (λ (k : ℕ) (x : ReadResult). read_text k x.passes x.flagged x.collisions) (w ∙ ap first_word f) e
          ∙ ap (λ (k : ℕ). read_text_by k v) (sym is_zero ∙ ap (λ (x : ReadResult). x.refusal) e))
          h;
    }

-- ---- the reply to a line by its event

pub replies_as : {p q : Reply} {r : Rank} {m : List ℕ} {before after : Output} → p ≡ q → Replies p r m before after
    → Replies q r m before after
replies_as e h = rw e at h

pub event_replies : {e : Option Event} {q : Rank} {n : List ℕ} {before after : Output} (s : List ℕ) (r : Rank) (m : List ℕ)
    → e ≡ event_of s → Replies (reply_by e r m) q n before after → Replies (reply_to s r m) q n before after
unfolding reply_to
event_replies s r m e h = replies_as (ap (λ (x : Option Event). reply_by x r m) e) h
