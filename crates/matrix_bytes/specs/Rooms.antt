-- Rooms for the words of a matrix call: which bytes they hold, and what is written back. No promise of a call cites these.
-- Definitions only.
use Rattle.std.specs.Prelude.{◌≡◌, Bool, false, ◌||◌, cond, List, ℕ, ◌+◌, ◌*◌, ltb, eqb, Float}
use Rattle.std.specs.Float.{Format}
use Rattle.answers.specs.Limits.{outside_of}
use Rattle.wire.specs.Bytes.{bytes_of}
use Rattle.pattern_bytes.specs.Checks.{Held}

-- N is 1, 2 or 3, and the matrix has no more than so many rows and entries
pub record HeldMatrix (rows entries dim offsets columns values diagonal : ℕ) : Type 0 where
  pub range : outside_of 1 3 dim ≡ false
  pub of_offsets : Held 4 (rows + 1) offsets
  pub of_columns : Held 4 entries columns
  pub of_values : Held 8 (9 * entries) values
  pub of_diagonal : Held 8 (9 * rows) diagonal

-- a room has exactly the words of the matrix
pub record FilledMatrix (dim offs cols vals diag offsets columns values diagonal : ℕ) : Type 0 where
  pub range : outside_of 1 3 dim ≡ false
  pub of_offsets : offsets ≡ 4 * offs
  pub of_columns : columns ≡ 4 * cols
  pub of_values : values ≡ 8 * vals
  pub of_diagonal : diagonal ≡ 8 * diag

-- the bytes of a pattern are more than those of 16 rows with 64 entries
abbrev pub is_many : ℕ → ℕ → Bool
is_many offsets columns = ltb 68 offsets || ltb 256 columns

-- what a call whose number is k leaves of bytes over which it writes values: they are encoded only if it is done
abbrev pub written : Format → ℕ → List Float → List ℕ → List ℕ
written f k values bytes = cond (eqb k 0) (bytes_of f values) bytes
