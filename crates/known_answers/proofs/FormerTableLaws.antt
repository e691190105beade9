-- Document 02, Req 03: "Every syndrome must give the position that the table gave." `position` is proved to give `position_of`.
-- Assumes nothing.
use Rattle.std.specs.Prelude.{◌≡◌, refl, ℕ, ◌<◌, T, eqb, length, get_or}
use Rattle.code.specs.TestLaws.{each, each_equal}
use Rattle.code.specs.Code.{times_x, remainder_in, remainder, syndrome_of, syndrome_at, position_from, position_of}
use Rattle.known_answers.specs.FormerTable.{former_table}

-- the table had an entry for each syndrome
pub table_length : length former_table ≡ 256
unfolding former_table
table_length = refl

table_test : T (each (λ s. eqb (position_of s) (get_or former_table s 0)) 256)
unfolding former_table position_of position_from syndrome_at syndrome_of remainder remainder_in times_x
table_test = tt

-- and every syndrome from 0 to 255 gives what it gave
pub table_gave : (s : ℕ) → s < 256 → position_of s ≡ get_or former_table s 0
table_gave s h = each_equal position_of (λ s. get_or former_table s 0) 256 table_test s h
