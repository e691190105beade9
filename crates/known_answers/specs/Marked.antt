-- Document 01, "Bench examples": the cases marked P, every column as a number.
-- c stands for a case.
-- Definitions alone.
use Rattle.std.specs.Prelude.{◌≡◌, Option, unwrap_or, List, [], ◌∷◌, map, ℕ}
use Rattle.code.specs.Code.{cell, syndrome_of, check_of, position_of, mended, mended_word}
use Rattle.code.specs.Lists.{Every}

-- A case: a word and its check byte, and a check byte that is given beside the word.
-- Of the word and the given check byte: the syndrome, the position of that syndrome, and M.
pub record Case : Type 0 where
  pub word : ℕ
  pub check : ℕ
  pub given : ℕ
  pub syndrome : ℕ
  pub position : ℕ
  pub mended_to : ℕ

-- A word beside its own check byte:
-- syndrome zero, so that there is no position and nothing is inverted.
abbrev own : ℕ → ℕ → Case
own w c = record { word = w; check = c; given = c; syndrome = 0; position = 255; mended_to = w }

-- Word 0 beside another check byte,
-- which is the syndrome.
abbrev zero_with : ℕ → ℕ → ℕ → Case
zero_with c p w = record { word = 0; check = 0; given = c; syndrome = c; position = p; mended_to = w }

-- The cases in document 01's order: check bytes of words 0, 1, 80h, FFh, 100h,
-- and of words 0100000000000000h, 8000000000000000h, FFFFFFFFFFFFFFFFh;
-- word 0 with check 07h has M = 1; with check 03h or 79h, M = 0 and nothing is inverted; syndrome BFh is position 71.
unfoldable pub cases : List Case
cases =
    own 0x0 0x00
    ∷ own 0x1 0x07
    ∷ own 0x80 0x89
    ∷ own 0xff 0xf3
    ∷ own 0x100 0x15
    ∷ own 0x0100_0000_0000_0000 0x13
    ∷ own 0x8000_0000_0000_0000 0xbf
    ∷ own 0xffff_ffff_ffff_ffff 0xd7
    ∷ zero_with 0x07 8 0x1
    ∷ zero_with 0x03 255 0x0
    ∷ zero_with 0x79 255 0x0
    ∷ zero_with 0xbf 71 0x8000_0000_0000_0000
    ∷ []

-- a row of the table: the columns of a case in this order
abbrev pub columns : Case → List ℕ
columns c = c.word ∷ c.check ∷ c.given ∷ c.syndrome ∷ c.position ∷ c.mended_to ∷ []

-- A row as the code has it, in numbers: 255 stands for no position, as in `position_of`.
abbrev pub numbers : ℕ × ℕ × ℕ × ℕ × Option ℕ × ℕ → List ℕ
numbers row = row.0 ∷ row.1 ∷ row.2 ∷ row.3 ∷ unwrap_or row.4 255 ∷ row.5 ∷ []

-- What a case says of the code:
-- each pair is equal.
-- Of the nine bytes after mending, the check byte is in all cases as given.
unfoldable pub says : Case → List (ℕ × ℕ)
says c =
    (check_of c.word, c.check)
    ∷ (syndrome_of (cell c.word c.given), c.syndrome)
    ∷ (position_of c.syndrome, c.position)
    ∷ (mended (cell c.word c.given), cell c.mended_to c.given)
    ∷ (mended_word (cell c.word c.given), c.mended_to)
    ∷ []

-- the rows are those of the cases, and each case holds
pub record Marked (rows : List (List ℕ)) : Type 0 where
  pub these : rows ≡ map columns cases
  pub hold : Every (λ c. Every (λ s. s.0 ≡ s.1) (says c)) cases
