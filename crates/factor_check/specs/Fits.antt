-- What the functions that check nothing ask of a factor.
-- Definitions only.
use Rattle.std.specs.Prelude.{◌≡◌, true, List, ℕ, ◌≤◌, length}
use Rattle.patterns.specs.Pattern.{rows_of, valid_splits}
use Rattle.matrix.specs.Fits.{MatrixFits}

-- a factor: a matrix of a size that is allowed, with sorted rows and a true split to each
pub record FactorFits (n : ℕ) (offsets columns splits : List ℕ) (diagonal values : ℕ) : Type 0 where
  pub matrix : MatrixFits n offsets columns values diagonal
  pub few : length columns ≤ 65535
  pub rows : rows_of offsets ≤ 4096
  pub of_splits : length splits ≡ rows_of offsets
  pub splits_right : valid_splits offsets columns splits ≡ true
