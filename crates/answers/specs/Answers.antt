-- Document 01, "Bench examples", program `bench`: what a line's event does to the record and the lent memory, and what is printed for it.
-- r stands for the record, m for the lent memory and l for a line's number.
-- Definitions alone; what holds of them is in `AnswerLaws`.
use Rattle.std.specs.Prelude.{ℕ, zero, suc, ◌≡◌, List, [], ◌∷◌, ◌++◌, take, replicate, Option, Some, None}
use Rattle.words.specs.Bytes.{number_of, bytes_of}
use Rattle.rank.specs.Calls.{Leaves, write_of, read_of, fault_of}
use Rattle.visits.specs.Visits.{LeavesRead}
use Rattle.cells.specs.Cells.{data_bytes}
use Rattle.record.specs.declared.Rank.{Rank}
use Rattle.rank.specs.declared.Called.{Called}
use Rattle.texts.specs.Texts.{call_text, read_text, unknown_text}
use Rattle.texts.specs.Outputs.{Prints}
use Rattle.texts.specs.declared.Output.{Output}
use Rattle.events.specs.Events.{event_of}
use Rattle.events.specs.declared.Event.{Event}
use Rattle.events.specs.declared.Event.TheVariants.{Write, Read, Fault}

-- what a line leaves: the record, the memory, and the text that is printed
pub record Reply : Type 0 where
  pub rank : Rank
  pub memory : List ℕ
  pub text : List ℕ

-- the letter, and 0 or the refusal
unfoldable pub call_reply : ℕ → Leaves Called → Reply
call_reply letter c = record { rank = c.result.rank; memory = c.memory; text = call_text letter c.result.refusal }

-- the first word of a line's 64 bytes
unfoldable pub first_word : List ℕ → ℕ
first_word b = number_of (take 8 b)

-- an answered r (72h) adds the first word, passes and masks
unfoldable pub read_text_by : ℕ → LeavesRead → List ℕ
read_text_by zero v = read_text (first_word v.buffer) v.result.passes v.result.flagged v.result.collisions
read_text_by (suc n) v = call_text 114 (suc n)

unfoldable pub read_reply : LeavesRead → Reply
read_reply v = record { rank = v.result.rank; memory = v.memory; text = read_text_by v.result.refusal v }

-- the nine bytes of a pattern's word and check
unfoldable pub pattern_of : ℕ → ℕ → List ℕ
pattern_of word check = bytes_of 8 word ++ (check ∷ [])

-- w (77h) writes 64 equal bytes; r reads, and the bench names task 0 (document 02, Req 01); f (66h) xors in a pattern
unfoldable pub reply_by : Option Event → Rank → List ℕ → Reply
reply_by (Some (Write l b)) r m = call_reply 119 (write_of r m l (replicate data_bytes b))
reply_by (Some (Read l)) r m = read_reply (read_of r m 0 l (replicate data_bytes 0))
reply_by (Some (Fault l k word check)) r m = call_reply 102 (fault_of r m l k (pattern_of word check))
reply_by None r m = record { rank = r; memory = m; text = unknown_text }

-- what a line s, without its line feed, leaves
unfoldable pub reply_to : List ℕ → Rank → List ℕ → Reply
reply_to s r m = reply_by (event_of s) r m

-- a reply was given: the record and the memory are as the reply says, and its text was laid in the output
pub record Replies (reply : Reply) (rank : Rank) (memory : List ℕ) (before after : Output) : Type 0 where
  pub record_is : rank ≡ reply.rank
  pub memory_is : memory ≡ reply.memory
  pub output_is : Prints before reply.text after
