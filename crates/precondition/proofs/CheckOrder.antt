-- The checks of the calls come in the order of document 01's table, and none has the number 0 or 9: so a number tells whether a call was refused, and fixes its answer.
-- Assumes nothing.
use mathlib.Core.Path.{◌≡◌, refl}
use mathlib.Core.List.{List}
use mathlib.Core.Bool.{true, false}
use Prim.Native.Nat.{ℕ}
use Rattle.answers.specs.Checks.{order, in_order}
use Rattle.answers.specs.Promise.{names}
use Rattle.precondition.specs.Checks.{solve_checks}

module _ (n : ℕ) (offsets columns splits : List ℕ) (diagonal values vec : ℕ) where
  pub solve_in_order : in_order order (solve_checks n offsets columns splits diagonal values vec) ≡ true
  solve_in_order = refl

  pub solve_names : (names 0 (solve_checks n offsets columns splits diagonal values vec) ≡ false) × (names 9 (solve_checks n offsets columns splits diagonal values vec) ≡ false)
  solve_names = (refl, refl)
