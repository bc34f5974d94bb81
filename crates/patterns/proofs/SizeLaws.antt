-- What check 1 leaves: 1 to 4,096 rows, and at most 65,535 columns.
-- Assumes nothing.
use mathlib.Core.Path.{◌≡◌, refl}
use mathlib.Core.Bool.{Bool, true, false, ◌||◌}
use Prim.Native.Nat.{ℕ, ◌-◌, ◌≤◌}
use lib.Dec.{ltb}
use borrow.Author.Tests.{ltb-false}
use Rattle.answers.specs.Limits.{rows_out_of_range, entries_out_of_range}
use Rattle.patterns.specs.Checks.{too_large}

or_left : (a b : Bool) → (a || b) ≡ false → a ≡ false
or_left true b h = h
or_left false b h = refl

or_right : (a b : Bool) → (a || b) ≡ false → b ≡ false
or_right true true h = h
or_right true false h = refl
or_right false b h = h

module _ (offsets columns : ℕ) (fits : too_large offsets columns ≡ false) where
  rows : rows_out_of_range (offsets - 1) ≡ false
  rows = or_left (rows_out_of_range (offsets - 1)) (entries_out_of_range columns) fits

  pub rows_least : 1 ≤ offsets - 1
  rows_least = ltb-false (offsets - 1) 1 (or_left (ltb (offsets - 1) 1) (ltb 4096 (offsets - 1)) rows)

  pub rows_most : offsets - 1 ≤ 4096
  rows_most = ltb-false 4096 (offsets - 1) (or_right (ltb (offsets - 1) 1) (ltb 4096 (offsets - 1)) rows)

  pub columns_most : columns ≤ 65535
  columns_most =
      ltb-false 65535 columns
      (or_right (ltb columns 0) (ltb 65535 columns) (or_right (rows_out_of_range (offsets - 1)) (entries_out_of_range columns) fits))
