-- The checks of the matrix calls come in the order of document 01's table, and none has the number 0 or 9: so a number tells whether a call was refused, and fixes its answer.
-- Assumes nothing.
use mathlib.Core.Path.{◌≡◌, refl}
use mathlib.Core.List.{List}
use mathlib.Core.Bool.{true, false}
use Prim.Native.Nat.{ℕ}
use Rattle.answers.specs.Checks.{order, in_order}
use Rattle.answers.specs.Promise.{names}
use Rattle.matrix.specs.Checks.{matrix_checks, vector_checks}

module _ (n : ℕ) (offsets columns : List ℕ) (values diagonal : ℕ) where
  pub matrix_in_order : in_order order (matrix_checks n offsets columns values diagonal) ≡ true
  matrix_in_order = refl

  pub matrix_names : (names 0 (matrix_checks n offsets columns values diagonal) ≡ false) × (names 9 (matrix_checks n offsets columns values diagonal) ≡ false)
  matrix_names = (refl, refl)

  module _ (first second : ℕ) where
    pub vector_in_order : in_order order (vector_checks n offsets columns values diagonal first second) ≡ true
    vector_in_order = refl

    pub vector_names : (names 0 (vector_checks n offsets columns values diagonal first second) ≡ false)
        × (names 9 (vector_checks n offsets columns values diagonal first second) ≡ false)
    vector_names = (refl, refl)
