-- The checks come in the order of document 01's table, and none has the number 0: so a number tells which condition held.
-- Assumes nothing.
use mathlib.Core.Path.{◌≡◌, refl}
use mathlib.Core.Bool.{true, false}
use Prim.Native.Nat.{ℕ}
use lib.Ieee.{Format}
use Rattle.answers.specs.Checks.{order, in_order}
use Rattle.answers.specs.Promise.{names}
use Rattle.factors.specs.Factor.{FactorPattern, FactorValues}
use Rattle.decompose.specs.Promise.{decompose_checks}

module _ (f : Format) (n : ℕ) (t : FactorPattern) (s : FactorValues) where
  pub decompose_in_order : in_order order (decompose_checks f n t s) ≡ true
  decompose_in_order = refl

  pub decompose_names : names 0 (decompose_checks f n t s) ≡ false
  decompose_names = refl
