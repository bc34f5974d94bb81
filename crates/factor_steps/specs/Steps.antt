-- What the functions of the crate ask of a factor, and what P r comes to: for the promises of the functions inside. No public promise cites these.
-- Definitions only.
use Rattle.std.specs.Prelude.{◌≡◌, List, ℕ, length, Float}
use Rattle.std.specs.Float.{Format}
use Rattle.patterns.specs.Pattern.{rows_of}
use Rattle.vectors.specs.Vectors.{dot_to}
use Rattle.factor_check.specs.Fits.{FactorFits}
use Rattle.solvers.specs.Method.{Matrix}
use Rattle.solvers.specs.Solvers.{Factor, preconditioned}

-- the factor fits, and has as many rows as the matrix
pub record Beside (n : ℕ) (a : Matrix) (g : Factor) : Type 0 where
  pub fits : FactorFits n g.pattern.offsets g.pattern.columns g.pattern.splits (length g.values.diagonal) (length g.values.values)
  pub same : rows_of g.pattern.offsets ≡ rows_of a.offsets

-- z is P r in the place of q, and rho its dot product with r
pub record Preconditions (f : Format) (n : ℕ) (g : Factor) (r q z : List Float) (rho : Float) : Type 0 where
  pub of_z : z ≡ preconditioned f n g r q
  pub of_rho : rho ≡ dot_to f n r z (rows_of g.pattern.offsets)
