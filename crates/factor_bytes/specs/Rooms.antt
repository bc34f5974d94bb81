-- Rooms for the words of a factor: which bytes they hold, and what is read into them. No promise of a call cites these.
-- Definitions only.
use Rattle.std.specs.Prelude.{◌≡◌, List, ℕ, ◌*◌, Float}
use Rattle.std.specs.Float.{Format}
use Rattle.wire.specs.Bytes.{values_in}
use Rattle.wire.specs.Words.{indexes_in}
use Rattle.pattern_bytes.specs.Checks.{Held}
use Rattle.matrix_bytes.specs.Rooms.{HeldMatrix, FilledMatrix}

-- N is 1, 2 or 3, and the factor has no more than so many rows and entries
pub record HeldFactor (rows entries dim offsets columns splits diagonal values : ℕ) : Type 0 where
  pub matrix : HeldMatrix rows entries dim offsets columns values diagonal
  pub of_splits : Held 4 rows splits

-- a room has exactly the words of the factor
pub record FilledFactor (dim offs cols cuts diag vals offsets columns splits diagonal values : ℕ) : Type 0 where
  pub matrix : FilledMatrix dim offs cols vals diag offsets columns values diagonal
  pub of_splits : splits ≡ 4 * cuts

-- words that were read from the bytes of a factor
pub record Decoded (f : Format) (offs cols cuts : List ℕ) (diag vals : List Float) (offsets columns splits diagonal values : List ℕ) : Type 0 where
  pub offsets_are : offs ≡ indexes_in offsets
  pub columns_are : cols ≡ indexes_in columns
  pub splits_are : cuts ≡ indexes_in splits
  pub diagonal_is : diag ≡ values_in f diagonal
  pub values_are : vals ≡ values_in f values
