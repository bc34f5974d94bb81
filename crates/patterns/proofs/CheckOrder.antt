-- The three lists of checks come in document 01's order and have no 0 and no 9: so a number tells which condition held, and fixes the answer.
-- Assumes nothing.
use mathlib.Core.Path.{◌≡◌, refl}
use mathlib.Core.List.{List}
use mathlib.Core.Bool.{true, false}
use Prim.Native.Nat.{ℕ}
use Rattle.answers.specs.Checks.{order, in_order}
use Rattle.answers.specs.Promise.{names}
use Rattle.patterns.specs.Checks.{pattern_checks, entries_checks, factor_checks}

module _ (offsets columns : List ℕ) where
  pub pattern_in_order : in_order order (pattern_checks offsets columns) ≡ true
  pattern_in_order = refl

  pub pattern_unnamed : (names 0 (pattern_checks offsets columns) ≡ false) × (names 9 (pattern_checks offsets columns) ≡ false)
  pattern_unnamed = (refl, refl)

  pub entries_in_order : in_order order (entries_checks offsets columns) ≡ true
  entries_in_order = refl

  pub entries_unnamed : (names 0 (entries_checks offsets columns) ≡ false) × (names 9 (entries_checks offsets columns) ≡ false)
  entries_unnamed = (refl, refl)

  pub factor_in_order : (splits : List ℕ) → in_order order (factor_checks offsets columns splits) ≡ true
  factor_in_order splits = refl

  pub factor_unnamed : (splits : List ℕ) → (names 0 (factor_checks offsets columns splits) ≡ false) × (names 9 (factor_checks offsets columns splits) ≡ false)
  factor_unnamed splits = (refl, refl)
