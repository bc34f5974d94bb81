-- What a caller has of a valid pattern: each row's ends, and columns that are rows.
-- Assumes nothing.
use mathlib.Core.Path.{◌≡◌}
use mathlib.Core.List.{List}
use mathlib.Core.Bool.{true, ◌&&◌}
use Prim.Native.Nat.{ℕ, zero, suc, ◌+◌, ◌-◌, ◌≤◌, ◌<◌}
use native.Mathlib.Omega.{arith}
use lib.ListN.{length, get_or, drop, length-take, length-drop}
use lib.Seq.{get_or-take, get_or-drop}
use borrow.Author.Tests.{leb-true, eqb-true, ltb-true}
use Rattle.base.proofs.All.{all_at, and_left, and_right}
use Rattle.patterns.specs.Pattern.{rows_of, row_of, first_is_zero, never_fall, last_is_count, all_below, all_once, own_absent, all_own_absent, valid_offsets, valid_entries, valid_pattern}

-- a valid pattern is valid as entries
pub pattern_entries : (o cs : List ℕ) → valid_pattern o cs ≡ true → valid_entries o cs ≡ true
unfolding valid_pattern
pattern_entries o cs ok = and_left (valid_entries o cs) (all_own_absent o cs) ok

-- and no row has its own column
pub own_absent_lem : (o cs : List ℕ) → valid_pattern o cs ≡ true → (i : ℕ) → i < rows_of o → own_absent i (row_of o cs i) ≡ true
unfolding valid_pattern all_own_absent
own_absent_lem o cs ok i h = all_at (λ k. own_absent k (row_of o cs k)) i (rows_of o) (and_right (valid_entries o cs) (all_own_absent o cs) ok) h

-- the rules of offsets
module _ (o cs : List ℕ) (ok : valid_offsets o cs ≡ true) where
  pub offset_first : first_is_zero o ≡ true
  unfolding valid_offsets
  offset_first = and_left (first_is_zero o) (never_fall o && last_is_count o cs) ok

  pub offsets_rise : never_fall o ≡ true
  unfolding valid_offsets
  offsets_rise = and_left (never_fall o) (last_is_count o cs) (and_right (first_is_zero o) (never_fall o && last_is_count o cs) ok)

  pub offset_last : get_or o (rows_of o) 0 ≡ length cs
  unfolding valid_offsets last_is_count
  offset_last = eqb-true _ _ (and_right (never_fall o) (last_is_count o cs) (and_right (first_is_zero o) (never_fall o && last_is_count o cs) ok))

  step : (i : ℕ) → i < rows_of o → get_or o i 0 ≤ get_or o (i + 1) 0
  unfolding never_fall
  step i h = leb-true _ _ (all_at (λ k. _) i (rows_of o) offsets_rise h)

  up : (i d : ℕ) → i + d ≤ rows_of o → get_or o i 0 ≤ get_or o (i + d) 0
  up i zero h = rw (same) (omega arith)
    where
      same : i + 0 ≡ i
      same = omega arith
  up i (suc d) h =
      let e : i + suc d ≡ (i + d) + 1 = omega arith in
      rw e (omega (arith, up i d (omega arith), step (i + d) (omega arith)))

  -- the ends of a row are in order and within the columns
  pub row_ends : (i : ℕ) → i < rows_of o → (get_or o i 0 ≤ get_or o (i + 1) 0) × (get_or o (i + 1) 0 ≤ length cs)
  row_ends i h =
      let e : (i + 1) + (rows_of o - (i + 1)) ≡ rows_of o = omega arith in
      let last : get_or o (i + 1) 0 ≤ get_or o (rows_of o) 0 = rw e at (up (i + 1) (rows_of o - (i + 1)) (omega arith)) in
      (step i h, omega (arith, last, offset_last))

  -- so that a row has as many columns as lie between them
  pub row_length : (i : ℕ) → i < rows_of o → get_or o i 0 + length (row_of o cs i) ≡ get_or o (i + 1) 0
  unfolding row_of
  row_length i h = let e = row_ends i h in simp (length-take, length-drop) (omega arith)

  -- and the column at a place of a row is that of the whole
  pub row_column : (i k : ℕ) → i < rows_of o → k < length (row_of o cs i) → get_or (row_of o cs i) k 0 ≡ get_or cs (get_or o i 0 + k) 0
  unfolding row_of
  row_column i k h l =
      let e = row_ends i h in
      let m = row_length i h in
      rw (get_or-take (get_or o (i + 1) 0 - get_or o i 0) (drop (get_or o i 0) cs) k 0 (omega arith), get_or-drop (get_or o i 0) cs k 0)

module _ (o cs : List ℕ) (ok : valid_entries o cs ≡ true) where
  pub valid_offsets_lem : valid_offsets o cs ≡ true
  unfolding valid_entries
  valid_offsets_lem = and_left (valid_offsets o cs) (all_below (rows_of o) cs && all_once o cs) ok

  pub columns_below : all_below (rows_of o) cs ≡ true
  unfolding valid_entries
  columns_below = and_left (all_below (rows_of o) cs) (all_once o cs) (and_right (valid_offsets o cs) (all_below (rows_of o) cs && all_once o cs) ok)

  pub columns_once : all_once o cs ≡ true
  unfolding valid_entries
  columns_once = and_right (all_below (rows_of o) cs) (all_once o cs) (and_right (valid_offsets o cs) (all_below (rows_of o) cs && all_once o cs) ok)

  -- every column is a row's number
  pub column_below : (e : ℕ) → e < length cs → get_or cs e 0 < rows_of o
  unfolding all_below
  column_below e h = ltb-true _ _ (all_at (λ k. _) e (length cs) columns_below h)

  pub row_column_below : (i k : ℕ) → i < rows_of o → k < length (row_of o cs i) → get_or (row_of o cs i) k 0 < rows_of o
  row_column_below i k h l =
      let e = row_ends o cs valid_offsets_lem i h in
      let m = row_length o cs valid_offsets_lem i h in
      rw (row_column o cs valid_offsets_lem i k h l) (column_below (get_or o i 0 + k) (omega arith))
