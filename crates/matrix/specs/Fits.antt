-- What the functions of the crate that check nothing ask of lengths and patterns.
-- Definitions only.
use Rattle.std.specs.Prelude.{◌≡◌, true, List, ℕ, ◌+◌, ◌*◌, ◌≤◌, ◌<◌, length, get_or}
use Rattle.lent.specs.Steps.{Dim}
use Rattle.patterns.specs.Pattern.{rows_of, valid_pattern}

-- the entries of a row: each has its block in the values, and each column its row in x
pub record RowFits (n : ℕ) (row : List ℕ) (first values x : ℕ) : Type 0 where
  pub stored : n * n * (first + length row) ≤ values
  pub seen : (k : ℕ) → k < length row → n * get_or row k 0 + n ≤ x

-- row i: its entries, its block of the diagonal, and its values in x and in y
pub record TurnFits (n i : ℕ) (row : List ℕ) (first values diagonal x y : ℕ) : Type 0 where
  pub entries : RowFits n row first values x
  pub here : n * i + n ≤ y
  pub of_x : n * i + n ≤ x
  pub of_diagonal : n * n * i + n * n ≤ diagonal

-- a matrix: a valid pattern, with a block to each entry and to each row
pub record MatrixFits (n : ℕ) (offsets columns : List ℕ) (values diagonal : ℕ) : Type 0 where
  pub dim : Dim n
  pub some : 1 ≤ length offsets
  pub pattern : valid_pattern offsets columns ≡ true
  pub of_values : values ≡ n * n * length columns
  pub of_diagonal : diagonal ≡ n * n * rows_of offsets
