-- The checks of `initialize_full` come in document 01's order and have no 0 and no 9: so a number tells which condition held, and fixes the answer.
-- Assumes nothing.
use mathlib.Core.Path.{◌≡◌, refl}
use mathlib.Core.Bool.{true, false}
use Prim.Native.Nat.{ℕ}
use Rattle.answers.specs.Checks.{order, in_order}
use Rattle.answers.specs.Promise.{names}
use Rattle.full.specs.Full.{full_checks}

module _ (n offsets columns splits : ℕ) where
  pub full_in_order : in_order order (full_checks n offsets columns splits) ≡ true
  full_in_order = refl

  pub full_unnamed : (names 0 (full_checks n offsets columns splits) ≡ false) × (names 9 (full_checks n offsets columns splits) ≡ false)
  full_unnamed = (refl, refl)
