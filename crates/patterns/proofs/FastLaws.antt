-- Rows that all climb make a valid pattern: each column stands once in its row, and every column stands in a row.
-- Assumes nothing.
use mathlib.Core.Path.{◌≡◌, refl, ◌∙◌}
use mathlib.Core.List.{List}
use mathlib.Core.Bool.{Bool, true, false, cond}
use Prim.Native.Nat.{ℕ, zero, suc, ◌+◌, ◌-◌, ◌≤◌, ◌<◌}
use native.Mathlib.Numerals.{add-one}
use native.Mathlib.Omega.{arith}
use lib.ListN.{length, get_or, drop, length-take, length-drop}
use lib.Seq.{get_or-take, get_or-drop}
use lib.Dec.{ltb}
use borrow.Author.Tests.{ltb-true, ltb-false, lt-ltb}
use Rattle.base.proofs.All.{both, all_at, all_of}
use Rattle.patterns.specs.Pattern.{rows_of, row_of, all_below}
use Rattle.patterns.specs.Steps.{Ordered, row_right, rows_right, valid_as, climbs, rows_climb}
use Rattle.patterns.proofs.OffsetLaws.{offsets_first, offsets_last}
use Rattle.patterns.proofs.OnceLaws.{once_after}
use Rattle.patterns.proofs.RowLaws.{row_within}
use Rattle.patterns.proofs.ClimbLaws.{climb_once, climb_absent, climb_below}

climb_right : (refused : Bool) (n i : ℕ) (row : List ℕ) → climbs n (cond refused i n) 0 row ≡ true → row_right refused i row ≡ true
unfolding row_right
climb_right true n i row climbing = once_after i row ∙ both (climb_once n i row climbing) (climb_absent n i row climbing)
climb_right false n i row climbing = climb_once n n row climbing

module _ (refused : Bool) (o cs : List ℕ) (ordered : Ordered o cs) (climbing : rows_climb refused o cs (rows_of o) ≡ true) where
  row_climbs : (i : ℕ) → i < rows_of o → climbs (rows_of o) (cond refused i (rows_of o)) 0 (row_of o cs i) ≡ true
  unfolding rows_climb
  row_climbs i inside = all_at _ i (rows_of o) climbing inside

  -- a column of row i is below n
  row_low : (i e : ℕ) → i < rows_of o → get_or o i 0 ≤ e → e < get_or o (i + 1) 0 → get_or cs e 0 < rows_of o
  unfolding row_of
  row_low i e inside from to =
      let first : ℕ = get_or o i 0 in
      let m : ℕ = get_or o (i + 1) 0 - first in
      let k : ℕ = e - first in
      let k< : k < m = omega arith in
      let end = row_within ordered i inside in
      let long : k < length (row_of o cs i) = simp (length-take, length-drop) (omega arith) in
      let same : first + k ≡ e = omega arith in
      let low : get_or (row_of o cs i) k 0 < rows_of o = climb_below (rows_of o) (cond refused i (rows_of o)) (row_of o cs i) (row_climbs i inside) k long in
      rw (get_or-take m (drop first cs) k 0 k<, get_or-drop first cs k 0, same) at low

  -- every column stands in a row: those before the offset of row i, by the rows before it
  low_before : (i : ℕ) → i ≤ rows_of o → (e : ℕ) → e < get_or o i 0 → get_or cs e 0 < rows_of o
  low_before zero within e h = absurd (omega (arith, h, offsets_first o cs ordered.valid))
  low_before (suc i) within e h = go (ltb e (get_or o i 0)) refl (low_before i (omega arith) e)
    where
      go : (b : Bool) → ltb e (get_or o i 0) ≡ b → (e < get_or o i 0 → get_or cs e 0 < rows_of o) → get_or cs e 0 < rows_of o
      go true is before = before (ltb-true e (get_or o i 0) is)
      go false is before = row_low i e (omega arith) (ltb-false e (get_or o i 0) is) (rw (add-one i) h)

  pub climbing_valid : valid_as refused o cs ≡ true
  unfolding valid_as all_below rows_right
  climbing_valid =
      both ordered.valid
      (both
      (all_of (λ e. ltb (get_or cs e 0) (rows_of o)) (length cs)
      (λ e inside. lt-ltb (get_or cs e 0) (rows_of o) (low_before (rows_of o) (omega arith) e (rw (offsets_last o cs ordered.valid) inside))))
      (all_of (λ i. row_right refused i (row_of o cs i)) (rows_of o) (λ i inside. climb_right refused (rows_of o) i (row_of o cs i) (row_climbs i inside))))
