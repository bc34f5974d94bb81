-- What the quick way finds makes A's pattern valid, and gives each of its entries a place.
-- Assumes nothing.
use mathlib.Core.Path.{◌≡◌, refl, ◌∙◌}
use mathlib.Core.List.{List}
use mathlib.Core.Bool.{Bool, true, false, not}
use Prim.Native.Nat.{ℕ, zero, suc, ◌+◌, ◌-◌, ◌≤◌, ◌<◌}
use native.Mathlib.Numerals.{add-one}
use native.Mathlib.Omega.{arith}
use lib.Dec.{ltb, eqb}
use lib.ListN.{length, get_or, take, drop}
use lib.Seq.{ext_get_or}
use borrow.Author.Tests.{ltb-true, ltb-false, lt-ltb, eqb-true, ne_eqb}
use Rattle.base.proofs.All.{both, all_of}
use Rattle.patterns.specs.Pattern.{rows_of, row_of, all_below, once, all_once, own_absent, all_own_absent, valid_offsets, valid_entries, valid_pattern}
use Rattle.patterns.proofs.OffsetLaws.{offsets_first}
use Rattle.patterns.proofs.Use.{pattern_entries, own_absent_lem, offset_last, row_length, row_column, row_column_below}
use Rattle.rows.specs.Lookup.{no_place, place_in}
use Rattle.rows.proofs.RowLaws.{absent_at, absent_of, once_at, once_of}
use Rattle.rows.proofs.LookupLaws.{found_once}
use Rattle.factors.specs.Copy.{has_place, row_has_places, all_have_places}
use Rattle.places.specs.Places.{Markable}
use Rattle.copy_check.specs.Steps.{Agree}
use Rattle.copy_check.specs.Stamps.{Holds, Placed, PlacedRows}
use Rattle.copy_check.proofs.LookLaws.{markable}
use Rattle.copy_check.proofs.StampLaws.{one_more}

-- a column that a row holds has its place there
pub holds_place : (row : List ℕ) (column : ℕ) → Markable row → Holds row column → not (eqb (place_in row column) no_place) ≡ true
holds_place row column fit held =
    rw (found_once row column held.0 fit.single held.1 held.2, ne_eqb held.0 no_place (λ e. omega (arith, e, fit.few, held.1)))

pub placed_row : (row from : List ℕ) → Markable row → Placed row from → row_has_places row from ≡ true
unfolding row_has_places has_place
placed_row row from fit placed = all_of (λ k. not (eqb (place_in row (get_or from k 0)) no_place)) (length from) (λ k h. holds_place row (get_or from k 0) fit (placed.held k h))

module _ (starts entries o cs : List ℕ) (right : PlacedRows starts entries o cs (rows_of starts)) (most : rows_of o ≤ 4096) (few : length cs ≤ 65535)
    (same : rows_of o ≡ rows_of starts) (valid : valid_pattern o cs ≡ true) (offsets-right : valid_offsets starts entries ≡ true) where
  module _ (i : ℕ) (h : i < rows_of starts) where
    there : i < rows_of o
    there = omega (arith, same)

    row_once : once (row_of starts entries i) ≡ true
    row_once = once_of (row_of starts entries i) (λ j k l b. (right i h).apart j k l b)

    row_own : own_absent i (row_of starts entries i) ≡ true
    unfolding own_absent
    row_own =
        absent_of (row_of starts entries i) i (length (row_of starts entries i))
        (λ k l e. let held = (right i h).held k l in
        absent_at (row_of o cs i) i (length (row_of o cs i)) held.0 (own_absent_lem o cs valid i there) held.1 (held.2 ∙ e))

    row_below : (k : ℕ) → k < length (row_of starts entries i) → get_or (row_of starts entries i) k 0 < rows_of starts
    row_below k l =
        let held = (right i h).held k l in
        omega (arith, same, held.2, row_column_below o cs (pattern_entries o cs valid) i held.0 there held.1)

    column_low : (e : ℕ) → get_or starts i 0 ≤ e → e < get_or starts (i + 1) 0 → get_or entries e 0 < rows_of starts
    column_low e from to =
        let long = row_length starts entries offsets-right i h in
        let k : ℕ = e - get_or starts i 0 in
        let inside : k < length (row_of starts entries i) = omega (arith, long) in
        let at : get_or starts i 0 + k ≡ e = omega arith in
        rw (row_column starts entries offsets-right i k h inside, at) at (row_below k inside)

    row_placed : row_has_places (row_of o cs i) (row_of starts entries i) ≡ true
    row_placed = placed_row (row_of o cs i) (row_of starts entries i) (markable o cs valid most i there few) (right i h)

  -- every entry stands in a row: those before the start of row i, by the rows before it
  low_before : (i : ℕ) → i ≤ rows_of starts → (e : ℕ) → e < get_or starts i 0 → get_or entries e 0 < rows_of starts
  low_before zero within e h = absurd (omega (arith, h, offsets_first starts entries offsets-right))
  low_before (suc i) within e h = go (ltb e (get_or starts i 0)) refl (low_before i (omega arith) e)
    where
      go : (b : Bool) → ltb e (get_or starts i 0) ≡ b → (e < get_or starts i 0 → get_or entries e 0 < rows_of starts) → get_or entries e 0 < rows_of starts
      go true is before = before (ltb-true e (get_or starts i 0) is)
      go false is before = column_low i (omega arith) e (ltb-false e (get_or starts i 0) is) (rw (add-one i) h)

  entries_right : valid_entries starts entries ≡ true
  unfolding valid_entries all_below all_once
  entries_right =
      both offsets-right
      (both
      (all_of (λ e. ltb (get_or entries e 0) (rows_of starts)) (length entries) (λ e h. lt-ltb (get_or entries e 0) (rows_of starts) (low_before (rows_of starts) (omega arith) e (omega (arith, offset_last starts entries offsets-right, h)))))
      (all_of (λ i. once (row_of starts entries i)) (rows_of starts) row_once))

  pub surely_valid : valid_pattern starts entries ≡ true
  unfolding valid_pattern all_own_absent
  surely_valid = both entries_right (all_of (λ i. own_absent i (row_of starts entries i)) (rows_of starts) row_own)

  pub surely_placed : all_have_places starts entries o cs ≡ true
  unfolding all_have_places
  surely_placed = all_of (λ i. row_has_places (row_of o cs i) (row_of starts entries i)) (rows_of starts) row_placed

-- the part between the ends that are read is the row
pub row_is : (o cs : List ℕ) (i a b : ℕ) → a ≡ get_or o i 0 → b ≡ get_or o (i + 1) 0 → take (b - a) (drop a cs) ≡ row_of o cs i
unfolding row_of
row_is o cs i a b p q = rw (p, q)

-- one row more
pub rows_more : (starts entries o cs : List ℕ) (m first past from to : ℕ) → first ≡ get_or starts m 0 → past ≡ get_or starts (m + 1) 0 → from ≡ get_or o m 0 → to ≡ get_or o (m + 1) 0
    → Placed (take (to - from) (drop from cs)) (take (past - first) (drop first entries)) → PlacedRows starts entries o cs m → PlacedRows starts entries o cs (m + 1)
rows_more starts entries o cs m first past from to p q r s row old =
    one_more (λ i. Placed (row_of o cs i) (row_of starts entries i)) m old (rw (row_is o cs m from to r s, row_is starts entries m first past p q) at row)

-- A pattern has its own places.
pub own_placed : (o cs : List ℕ) → rows_of o ≤ 4096 → length cs ≤ 65535 → valid_pattern o cs ≡ true → all_have_places o cs o cs ≡ true
unfolding all_have_places
own_placed o cs most few valid =
    all_of (λ i. row_has_places (row_of o cs i) (row_of o cs i)) (rows_of o)
    (λ i h. let fit = markable o cs valid most i h few in
    placed_row (row_of o cs i) (row_of o cs i) fit (record { held = λ j l. (j, l, refl); apart = λ j k l b. once_at (row_of o cs i) j k fit.single l b }))

-- the same of two patterns that are the same
pub same_placed : (starts entries o cs : List ℕ) → starts ≡ o → entries ≡ cs → rows_of o ≤ 4096 → length cs ≤ 65535 → valid_pattern o cs ≡ true
    → (valid_pattern starts entries ≡ true) × (all_have_places starts entries o cs ≡ true)
same_placed starts entries o cs p q most few valid = rw (p, q) (valid, own_placed o cs most few valid)

-- two lists that agree to their ends
pub same_of : (a b : List ℕ) (m : ℕ) → length a ≡ length b → eqb m (length a) ≡ true → Agree a b m → a ≡ b
same_of a b m long whole agree = ext_get_or 0 a b long (λ i h. agree.same i (omega (arith, eqb-true m (length a) whole, h)))
