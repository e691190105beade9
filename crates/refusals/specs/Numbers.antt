-- The number of each refusal in document 01's two tables and in document 02, Req 01, and the number that a call's tests come to.
-- Definitions alone.
use Rattle.std.specs.Prelude.{ℕ, Result, Ok, Err}
use Rattle.refusals.specs.declared.Refusal.{Refusal}
use Rattle.refusals.specs.declared.Refusal.TheVariants.{Line, Buffer, Chip, Pattern, CatchWords, BootMemory, NotReady, Memory, Register, Task}

abbrev pub number_of : Refusal → ℕ
number_of Line = 1
number_of Buffer = 2
number_of Chip = 3
number_of Pattern = 4
number_of CatchWords = 5
number_of BootMemory = 11
number_of NotReady = 12
number_of Memory = 13
number_of Register = 14
number_of Task = 31

-- 0 where no test refuses
abbrev pub number_in : {A : Type 0} → Result A Refusal → ℕ
number_in (Ok _) = 0
number_in (Err refusal) = number_of refusal
