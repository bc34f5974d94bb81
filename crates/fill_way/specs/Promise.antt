-- The promise of a call that writes a pattern, of words as of bytes: done, or nothing has changed, or all that is written is 0.
-- Definitions only.
use Rattle.std.specs.Prelude.{◌≡◌, List, ◌++◌, ℕ, ◌-◌, ◌*◌, length, replicate}
use Rattle.answers.specs.Checks.{Check, first_of}
use Rattle.patterns.specs.Pattern.{rows_of}
use Rattle.fill.specs.Fill.{stored, fill_offsets, fill_splits}
use Rattle.fill.specs.Promise.{cleared, leaves}
use Rattle.full.specs.Full.{full_columns}
use Rattle.ilu0.specs.Ilu0.{sorted_rows}
use Rattle.iluk.specs.Iluk.{columns_in}

-- The number is that of the first check that holds, and the outputs are as that says.
pub record Wrote (checks : List Check) (number : ℕ) (new_offsets new_columns new_splits offsets columns splits offsets' columns' splits' : List ℕ) : Type 0 where
  pub first : number ≡ first_of checks
  pub offsets_are : offsets' ≡ leaves number new_offsets offsets
  pub columns_are : columns' ≡ leaves number new_columns columns
  pub splits_are : splits' ≡ leaves number new_splits splits

-- The work is 0 after a call that wrote, and else as it was.
pub record Cleared (number : ℕ) (levels row levels' row' : List ℕ) : Type 0 where
  pub levels_are : levels' ≡ leaves number (cleared levels) levels
  pub row_is : row' ≡ leaves number (cleared row) row

-- the columns of a full pattern of n rows, with zeros to the end of the room
abbrev pub full_columns_in : ℕ → ℕ → List ℕ
full_columns_in n room = full_columns n n ++ replicate (room - n * (n - 1)) 0

-- the sorted rows of A, which is lent as starts and entries, with zeros to the end of the room
abbrev pub ilu0_columns : List ℕ → List ℕ → ℕ → List ℕ
ilu0_columns starts entries room = sorted_rows starts entries (rows_of starts) ++ replicate (room - length entries) 0

-- the words of the fill at level k of A: offsets,
abbrev pub iluk_offsets : ℕ → List ℕ → List ℕ → List ℕ
iluk_offsets k starts entries = fill_offsets (stored starts entries) k (rows_of starts)

-- columns, with zeros to the end of the room,
abbrev pub iluk_columns : ℕ → List ℕ → List ℕ → ℕ → List ℕ
iluk_columns k starts entries room = columns_in (stored starts entries) k (rows_of starts) room

-- and splits
abbrev pub iluk_splits : ℕ → List ℕ → List ℕ → List ℕ
iluk_splits k starts entries = fill_splits (stored starts entries) k (rows_of starts)
