-- What the work on a row of a factor asks.
-- Definitions only.
use Rattle.std.specs.Prelude.{◌≡◌, List, ℕ, ◌+◌, ◌*◌, ◌≤◌, length, Float}
use Rattle.blocks.specs.Lent.{vector_at}
use Rattle.matrix.specs.Fits.{RowFits}

-- row i and a part of its entries: each entry has its block and its row of x, and the row has its own value and block of the diagonal
pub record PartFits (n i : ℕ) (part : List ℕ) (first diagonal values x : ℕ) : Type 0 where
  pub entries : RowFits n part first values x
  pub here : n * i + n ≤ x
  pub of_diagonal : n * n * i + n * n ≤ diagonal

-- row `at` of x, if it has that row, is at hand as `known`
abbrev pub Known : ℕ → ℕ → List Float → List Float → Type 0
Known n at known x = n * at + n ≤ length x → known ≡ vector_at n x at
