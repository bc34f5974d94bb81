-- The checks of both solvers come in the order of document 01's table, and none has the number 0 or 9: so a number tells whether a call was refused, and fixes its answer.
-- Assumes nothing.
use mathlib.Core.Path.{◌≡◌, refl}
use mathlib.Core.List.{List}
use mathlib.Core.Bool.{true, false}
use Prim.Native.Nat.{ℕ}
use Rattle.answers.specs.Checks.{order, in_order}
use Rattle.answers.specs.Promise.{names}
use Rattle.solvers.specs.Checks.{plain_checks, preconditioned_checks}

module _ (n limit : ℕ) (offsets columns : List ℕ) (values diagonal r u ap p history : ℕ) where
  pub plain_in_order : in_order order (plain_checks n limit offsets columns values diagonal r u ap p history) ≡ true
  plain_in_order = refl

  pub plain_names : (names 0 (plain_checks n limit offsets columns values diagonal r u ap p history) ≡ false)
      × (names 9 (plain_checks n limit offsets columns values diagonal r u ap p history) ≡ false)
  plain_names = (refl, refl)

module _ (n limit : ℕ) (starts entries : List ℕ) (a-values a-diagonal : ℕ) (offsets columns splits : List ℕ) (diagonal values r x pr p history : ℕ) where
  pub preconditioned_in_order : in_order order (preconditioned_checks n limit starts entries a-values a-diagonal offsets columns splits diagonal values r x pr p history) ≡ true
  preconditioned_in_order = refl

  pub preconditioned_names : (names 0 (preconditioned_checks n limit starts entries a-values a-diagonal offsets columns splits diagonal values r x pr p history) ≡ false)
      × (names 9 (preconditioned_checks n limit starts entries a-values a-diagonal offsets columns splits diagonal values r x pr p history) ≡ false)
  preconditioned_names = (refl, refl)
