-- What the functions of the crate that check nothing ask of a row of a factor that is handed on. No public promise cites these.
-- Definitions only.
use Rattle.std.specs.Prelude.{◌≡◌, List, true, ℕ, ◌+◌, ◌*◌, ◌≤◌, length, get_or}
use Rattle.lent.specs.Steps.{Within}
use Rattle.patterns.specs.Pattern.{row_of, all_below}
use Rattle.places.specs.Places.{Markable, Marked}

-- row i of a pattern is handed on as its columns and the place of its first entry
pub record HandedOn (offsets columns : List ℕ) (i : ℕ) (row : List ℕ) (from : ℕ) : Type 0 where
  pub row_is : row ≡ row_of offsets columns i
  pub from_is : from ≡ get_or offsets i 0

-- row i, from which products of entries are taken: its columns are marked, it has its block of the diagonal, and each entry has its block
pub record TakeFits (n : ℕ) (marks row : List ℕ) (from : ℕ) (columns : List ℕ) (i diagonal values : ℕ) : Type 0 where
  pub markable : Markable row
  pub marked : Marked row marks
  pub below : all_below 4096 columns ≡ true
  pub here : Within (n * n) i diagonal
  pub of_row : from + length row ≤ length columns
  pub of_values : n * n * length columns ≤ values
