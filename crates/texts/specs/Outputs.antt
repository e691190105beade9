-- Lent bytes for output.
-- Definitions alone; what holds of them is in `TextLaws`.
use Rattle.std.specs.Prelude.{◌+◌, ◌≤◌, ◌≡◌, ℕ, List, length}
use Rattle.texts.specs.Texts.{longest_text, Laid}
use Rattle.texts.specs.declared.Output.{Output}

-- the longest text has room
abbrev pub HasRoom : Output → Type 0
HasRoom o = o.used + longest_text ≤ length o.buffer.now

-- a text is laid behind the bytes used, and is used then. The bytes are those that were lent before.
pub record Prints (before : Output) (text : List ℕ) (after : Output) : Type 0 where
  pub laid : Laid before.buffer.now before.used text after.buffer.now after.used
  pub same_size : length after.buffer.now ≡ length before.buffer.now
  pub same_buffer : after.buffer.ghost_name ≡ before.buffer.ghost_name
