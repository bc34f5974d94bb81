-- The checks of `initialize_ilu0` come in document 01's order and have no 0 and no 9: so a number tells which condition held, and fixes the answer.
-- Assumes nothing.
use mathlib.Core.Path.{◌≡◌, refl}
use mathlib.Core.List.{List}
use mathlib.Core.Bool.{true, false}
use Prim.Native.Nat.{ℕ}
use Rattle.answers.specs.Checks.{order, in_order}
use Rattle.answers.specs.Promise.{names}
use Rattle.ilu0.specs.Ilu0.{ilu0_checks}

module _ (starts entries : List ℕ) (offsets columns splits : ℕ) where
  pub ilu0_in_order : in_order order (ilu0_checks starts entries offsets columns splits) ≡ true
  ilu0_in_order = refl

  pub ilu0_unnamed : (names 0 (ilu0_checks starts entries offsets columns splits) ≡ false) × (names 9 (ilu0_checks starts entries offsets columns splits) ≡ false)
  ilu0_unnamed = (refl, refl)
