-- The promise of `initialize_iluk`: its number, and every lent word afterwards.
-- Definitions only.
use Rattle.answers.specs.Numbers.{Answer}
use Rattle.std.specs.Prelude.{◌≡◌, List, ◌++◌, ℕ, ◌-◌, length, replicate}
use Rattle.answers.specs.Numbers.{number_of}
use Rattle.answers.specs.Checks.{first_of}
use Rattle.patterns.specs.Pattern.{rows_of}
use Rattle.walks.specs.Levels.{Pattern}
use Rattle.fill.specs.Fill.{stored, fill_offsets, fill_columns, fill_splits, start_of}
use Rattle.fill.specs.Promise.{cleared, leaves}
use Rattle.iluk.specs.Checks.{iluk_checks}

-- the columns of the fill, and zeros past the last entry
abbrev pub columns_in : Pattern → ℕ → ℕ → ℕ → List ℕ
columns_in A k n room = fill_columns A k n n ++ replicate (room - start_of A k n n) 0

-- The pattern A is lent as starts and entries. The outputs hold the fill of A at k where the call is done, and the work words are then 0.
pub record Initialized (k : ℕ) (starts entries offsets columns splits levels row : List ℕ) (answer : Answer) (offsets' columns' splits' levels' row' : List ℕ) : Type 0 where
  pub number : number_of answer ≡ first_of (iluk_checks k starts entries (length offsets) (length columns) (length splits) (length levels) (length row))
  pub offsets_are : offsets' ≡ leaves (number_of answer) (fill_offsets (stored starts entries) k (rows_of starts)) offsets
  pub columns_are : columns' ≡ leaves (number_of answer) (columns_in (stored starts entries) k (rows_of starts) (length columns)) columns
  pub splits_are : splits' ≡ leaves (number_of answer) (fill_splits (stored starts entries) k (rows_of starts)) splits
  pub levels_are : levels' ≡ leaves (number_of answer) (cleared levels) levels
  pub row_is : row' ≡ leaves (number_of answer) (cleared row) row
