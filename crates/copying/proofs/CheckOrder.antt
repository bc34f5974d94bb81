-- The checks of the calls come in the order of document 01's table, and none has the number 0 or 9: so a number tells whether a call was refused, and fixes its answer.
-- Assumes nothing.
use mathlib.Core.Path.{◌≡◌, refl}
use mathlib.Core.List.{List}
use mathlib.Core.Bool.{true, false}
use Prim.Native.Nat.{ℕ}
use Rattle.answers.specs.Checks.{order, in_order}
use Rattle.answers.specs.Promise.{names}
use Rattle.copying.specs.Checks.{copy_checks}

module _ (n : ℕ) (starts entries : List ℕ) (a-diagonal a-values : ℕ) (offsets columns splits : List ℕ) (diagonal values : ℕ) where
  pub copy_in_order : in_order order (copy_checks n starts entries a-diagonal a-values offsets columns splits diagonal values) ≡ true
  copy_in_order = refl

  pub copy_names : (names 0 (copy_checks n starts entries a-diagonal a-values offsets columns splits diagonal values) ≡ false)
      × (names 9 (copy_checks n starts entries a-diagonal a-values offsets columns splits diagonal values) ≡ false)
  copy_names = (refl, refl)
