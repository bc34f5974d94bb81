-- What a row that is handed on gives to the work on a product.
-- Assumes nothing.
use mathlib.Core.Path.{◌≡◌, refl, sym}
use mathlib.Core.List.{List}
use Prim.Native.Nat.{ℕ, ◌+◌, ◌-◌, ◌*◌, ◌≤◌, ◌<◌}
use native.Mathlib.Omega.{arith}
use lib.Dec.{ltb}
use lib.ListN.{length, get_or, take, drop}
use borrow.Author.Tests.{ltb-true, ne_eqb}
use Rattle.base.proofs.All.{all_at}
use Rattle.base.proofs.Sizes.{part_fits}
use Rattle.patterns.specs.Pattern.{rows_of, all_below}
use Rattle.rows.specs.Lookup.{no_place, place_in}
use Rattle.rows.proofs.LookupLaws.{is_found}
use Rattle.places.specs.Places.{Marked}
use Rattle.lent.specs.Steps.{Within}
use Rattle.matrix.proofs.FitLaws.{row_is}
use Rattle.factor_check.specs.Fits.{FactorFits}
use Rattle.factor_check.proofs.FitLaws.{columns_few, diagonal_within, pivot_below, row_ends, row_long, split_between, can_be_marked}
use Rattle.reducing.specs.Fits.{HandedOn, TakeFits}

module _ {n : ℕ} {o cs ss : List ℕ} {diagonal values : ℕ} (fit : FactorFits n o cs ss diagonal values) (i : ℕ) (h : i < rows_of o) where
  -- the part that is handed on
  pub handed : HandedOn o cs i (take (get_or o (i + 1) 0 - get_or o i 0) (drop (get_or o i 0) cs)) (get_or o i 0)
  handed = record { row_is = row_is o cs i (get_or o i 0) (get_or o (i + 1) 0) refl refl; from_is = refl }

  -- what the work on it asks once it is marked
  pub take_fits : (marks : List ℕ) → Marked (take (get_or o (i + 1) 0 - get_or o i 0) (drop (get_or o i 0) cs)) marks
      → TakeFits n marks (take (get_or o (i + 1) 0 - get_or o i 0) (drop (get_or o i 0) cs)) (get_or o i 0) cs i diagonal values
  take_fits marks marked =
      record {
        markable = can_be_marked fit i h;
        marked = marked;
        below = columns_few fit;
        here = diagonal_within fit i h;
        of_row = rw (handed.row_is, row_long fit i h) (row_ends fit i h).1;
        of_values = omega (arith, fit.matrix.of_values);
      }

-- the row that entry e leads to: it has a split and an end, and its upper entries lie between them
module _ {n : ℕ} {o cs ss : List ℕ} {diagonal values : ℕ} (fit : FactorFits n o cs ss diagonal values) (e : ℕ) (h : e < length cs) where
  pub has_split : get_or cs e 0 < length ss
  has_split = omega (arith, pivot_below fit e h, fit.of_splits)

  pub has_end : get_or cs e 0 + 1 < length o
  has_end = omega (arith, pivot_below fit e h)

  pub upper_ends : (first end : ℕ) → first ≡ get_or ss (get_or cs e 0) 0 → end ≡ get_or o (get_or cs e 0 + 1) 0 → (first ≤ end) × (end ≤ length cs)
  upper_ends first end is_first is-end =
      let below = pivot_below fit e h in
      (omega (arith, (split_between fit (get_or cs e 0) below).1), omega (arith, (row_ends fit (get_or cs e 0) below).1))

module _ {n : ℕ} {marks row : List ℕ} {from : ℕ} {cs : List ℕ} {i diagonal values : ℕ} (fit : TakeFits n marks row from cs i diagonal values) where
  pub entry_within : (e : ℕ) → e < length cs → Within (n * n) e values
  entry_within e h = part_fits (n * n) e (length cs) values h fit.of_values

  pub column_small : (g : ℕ) → g < length cs → get_or cs g 0 < 4096
  unfolding all_below
  column_small g h = ltb-true (get_or cs g 0) 4096 (all_at (λ e. ltb (get_or cs e 0) 4096) g (length cs) fit.below h)

  -- a place that is found is one of the row's
  pub found_below : (j place : ℕ) → place ≡ place_in row j → (place ≡ no_place → ⊥) → from + place < length cs
  found_below j place is there =
      let found = is_found row j place (sym is) (rw (ne_eqb place no_place there)) in
      omega (arith, found.below, fit.of_row)
