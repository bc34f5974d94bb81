-- What a step of the solvers asks, and what it leaves: for the promises of the functions inside. No public promise cites these.
-- Definitions only.
use Rattle.std.specs.Prelude.{◌≡◌, List, ℕ, ◌*◌, length, Float}
use Rattle.std.specs.Float.{Format}
use Rattle.patterns.specs.Pattern.{rows_of}
use Rattle.matrix.specs.Fits.{MatrixFits}
use Rattle.solvers.specs.Method.{Matrix, State, squared, Run}
use Rattle.solvers.specs.Promise.{over}

-- the matrix fits, and each vector has N values to a row
pub record Ready (n : ℕ) (a : Matrix) (r x q p : ℕ) : Type 0 where
  pub fits : MatrixFits n a.offsets a.columns (length a.values) (length a.diagonal)
  pub of_r : r ≡ n * rows_of a.offsets
  pub of_x : x ≡ n * rows_of a.offsets
  pub of_q : q ≡ n * rows_of a.offsets
  pub of_p : p ≡ n * rows_of a.offsets

-- the vectors are those of a state, and the number is its squared norm
pub record Advanced (f : Format) (n : ℕ) (a : Matrix) (s : State) (r x q : List Float) (square : Float) : Type 0 where
  pub of_r : r ≡ s.r
  pub of_x : x ≡ s.x
  pub of_q : q ≡ s.q
  pub of_square : square ≡ squared f n a s

-- slices that a run leaves, where the history lent to it held `words`, and how many numbers it wrote there
pub record Leaves (t : Run) (words r x q p history : List Float) (count : ℕ) : Type 0 where
  pub of_r : r ≡ t.end.r
  pub of_x : x ≡ t.end.x
  pub of_q : q ≡ t.end.q
  pub of_p : p ≡ t.end.p
  pub of_history : history ≡ over t.history words
  pub of_count : count ≡ length t.history
