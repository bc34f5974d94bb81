-- The lists of checks come in document 01's order and have no 0 and no 9: so a number tells which condition held, and fixes the answer.
-- Assumes nothing.
use mathlib.Core.Path.{◌≡◌, refl}
use mathlib.Core.List.{List}
use mathlib.Core.Bool.{true, false}
use Prim.Native.Nat.{ℕ}
use Rattle.answers.specs.Checks.{order, in_order}
use Rattle.answers.specs.Promise.{names}
use Rattle.elements.specs.Checks.{entry_lengths, element_lengths, merge_checks, csrdia_checks, blkcsr_checks}

module _ (n element : ℕ) (offsets columns : List ℕ) (diagonal values : ℕ) where
  pub merge_in_order : (nodes : List ℕ) → in_order order (merge_checks n nodes element offsets columns diagonal values) ≡ true
  merge_in_order nodes = refl

  pub merge_unnamed : (nodes : List ℕ)
      → (names 0 (merge_checks n nodes element offsets columns diagonal values) ≡ false) × (names 9 (merge_checks n nodes element offsets columns diagonal values) ≡ false)
  merge_unnamed nodes = (refl, refl)

  module _ (rows cols : List ℕ) where
    pub csrdia_in_order : in_order order (csrdia_checks rows cols element offsets columns diagonal values) ≡ true
    csrdia_in_order = refl

    pub csrdia_unnamed : (names 0 (csrdia_checks rows cols element offsets columns diagonal values) ≡ false) × (names 9 (csrdia_checks rows cols element offsets columns diagonal values) ≡ false)
    csrdia_unnamed = (refl, refl)

    pub blkcsr_in_order : in_order order (blkcsr_checks n rows cols element offsets columns values) ≡ true
    blkcsr_in_order = refl

    pub blkcsr_unnamed : (names 0 (blkcsr_checks n rows cols element offsets columns values) ≡ false) × (names 9 (blkcsr_checks n rows cols element offsets columns values) ≡ false)
    blkcsr_unnamed = (refl, refl)

-- the two that rest on lengths alone
module _ (n rows cols element offsets columns diagonal values : ℕ) where
  pub lengths_in_order : (in_order order (entry_lengths n rows cols element offsets columns values) ≡ true) × (in_order order (element_lengths n rows cols element offsets columns diagonal values) ≡ true)
  lengths_in_order = (refl, refl)

  pub lengths_unnamed : (names 0 (entry_lengths n rows cols element offsets columns values) ≡ false) × (names 0 (element_lengths n rows cols element offsets columns diagonal values) ≡ false)
  lengths_unnamed = (refl, refl)
