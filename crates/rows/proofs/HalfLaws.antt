-- Halves of a row that rises: what stands before a place is below the column sought, what stands from there on is not.
-- Assumes nothing.
use mathlib.Core.Path.{◌≡◌, refl}
use mathlib.Core.List.{List}
use mathlib.Core.Bool.{Bool, true, false}
use Prim.Native.Nat.{ℕ, ◌≤◌, ◌<◌}
use native.Mathlib.Omega.{arith}
use lib.Dec.{ltb}
use lib.ListN.{length, get_or}
use borrow.Author.Tests.{ltb-true, ltb-false}
use Rattle.std.specs.List.Sorted.{IsPartitionedBy, IsPartitionPoint}
use Rattle.std.proofs.lemmas.List.Sorted.{IsPartitionedBy-ltb, IsNonDecreasingBy-from_default}
use Rattle.patterns.specs.Pattern.{rises}
use Rattle.rows.specs.Lookup.{no_place, place_in}
use Rattle.rows.proofs.RowLaws.{absent_of, rises_level}
use Rattle.rows.proofs.LookupLaws.{found_at, found_nowhere}

-- what `partition_point` asks
pub parted : (row : List ℕ) (column : ℕ) → rises row ≡ true → IsPartitionedBy (λ y. ltb y column) row
parted row column rising = IsPartitionedBy-ltb (λ y. y) row column (IsNonDecreasingBy-from_default (λ y. y) row 0 (λ i j le inside. rises_level row i j rising le inside))

-- and what it then says: the column stands at that place or nowhere
module _ (row : List ℕ) (column low : ℕ) (split : IsPartitionPoint (λ y. ltb y column ≡ true) (λ y. ltb y column ≡ false) row low) where
  below : (k : ℕ) → k < low → get_or row k 0 < column
  below k before = ltb-true _ _ (split.0 k 0 (omega arith) before)

  above : (k : ℕ) → low ≤ k → k < length row → column ≤ get_or row k 0
  above k after inside = ltb-false _ _ (split.1 k 0 after inside)

  pub found_low : low < length row → get_or row low 0 ≡ column → place_in row column ≡ low
  found_low inside there =
      found_at row column low (record { below = inside; there = there; first = absent_of row column low (λ j before e. omega (arith, below j before, e)) })

  pub found_past : rises row ≡ true → low < length row → (get_or row low 0 ≡ column → ⊥) → place_in row column ≡ no_place
  found_past rising inside other = found_nowhere row column (absent_of row column (length row) (λ j. apart j (ltb j low) refl))
    where
      apart : (j : ℕ) (b : Bool) → ltb j low ≡ b → j < length row → get_or row j 0 ≡ column → ⊥
      apart j true less within e = omega (arith, below j (ltb-true j low less), e)
      apart j false less within e =
          omega (arith, above low (omega arith) inside, other, rises_level row low j rising (ltb-false j low less) within, e)

  pub found_end : length row ≤ low → place_in row column ≡ no_place
  found_end closed = found_nowhere row column (absent_of row column (length row) (λ j inside e. omega (arith, below j (omega arith), e)))
