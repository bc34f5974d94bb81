-- The checks of `initialize_iluk` come in document 01's order and have no 0 and no 9: so a number tells which condition held, and fixes the answer.
-- Assumes nothing.
use mathlib.Core.Path.{◌≡◌, refl}
use mathlib.Core.List.{List}
use mathlib.Core.Bool.{true, false}
use Prim.Native.Nat.{ℕ}
use Rattle.answers.specs.Checks.{order, in_order}
use Rattle.answers.specs.Promise.{names}
use Rattle.iluk.specs.Checks.{iluk_checks}

module _ (k : ℕ) (starts entries : List ℕ) (offsets columns splits levels row : ℕ) where
  pub iluk_in_order : in_order order (iluk_checks k starts entries offsets columns splits levels row) ≡ true
  iluk_in_order = refl

  pub iluk_unnamed : (names 0 (iluk_checks k starts entries offsets columns splits levels row) ≡ false) × (names 9 (iluk_checks k starts entries offsets columns splits levels row) ≡ false)
  iluk_unnamed = (refl, refl)
