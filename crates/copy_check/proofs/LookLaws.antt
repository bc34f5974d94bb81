-- What two patterns give to the lookups of a row, and to the work on it.
-- Assumes nothing.
use mathlib.Core.Path.{◌≡◌}
use mathlib.Core.List.{List}
use mathlib.Core.Bool.{true}
use Prim.Native.Nat.{ℕ, ◌+◌, ◌≤◌, ◌<◌}
use native.Mathlib.Omega.{arith}
use lib.ListN.{length, get_or}
use borrow.Author.Tests.{lt-ltb, ne_eqb}
use Rattle.base.specs.All.{all_to}
use Rattle.base.proofs.All.{all_at, all_of}
use Rattle.patterns.specs.Pattern.{rows_of, row_of, all_below, once, all_once, valid_pattern, valid_entries}
use Rattle.patterns.proofs.Use.{pattern_entries, valid_offsets_lem, columns_once, row_ends, row_length, row_column_below}
use Rattle.rows.specs.Lookup.{no_place, place_in}
use Rattle.rows.proofs.LookupLaws.{found_once}
use Rattle.factors.specs.Copy.{has_place}
use Rattle.places.specs.Places.{Markable}
use Rattle.copy_check.specs.Steps.{Agree, Patterns}

-- a column at which two rows agree has its place in both
agreed : (row from : List ℕ) (m k : ℕ) → Markable row → Agree row from m → k < m → place_in row (get_or from k 0) ≡ k
agreed row from m k fit agree h =
    found_once row (get_or from k 0) k fit.single (omega (arith, agree.in_row)) (agree.same k h)

pub agree_has : (row from : List ℕ) (m : ℕ) → Markable row → Agree row from m → all_to (has_place row from) m ≡ true
unfolding has_place
agree_has row from m fit agree =
    all_of _ m (λ k h. rw (agreed row from m k fit agree h, ne_eqb k no_place (λ e. omega (arith, e, fit.few, agree.in_row))))

-- a row of a valid pattern
module _ (o cs : List ℕ) (valid : valid_pattern o cs ≡ true) (most : rows_of o ≤ 4096) (i : ℕ) (h : i < rows_of o) where
  entries : valid_entries o cs ≡ true
  entries = pattern_entries o cs valid

  pub ends : (get_or o i 0 ≤ get_or o (i + 1) 0) × (get_or o (i + 1) 0 ≤ length cs)
  ends = row_ends o cs (valid_offsets_lem o cs entries) i h

  pub long : get_or o i 0 + length (row_of o cs i) ≡ get_or o (i + 1) 0
  long = row_length o cs (valid_offsets_lem o cs entries) i h

  pub low : all_below 4096 (row_of o cs i) ≡ true
  unfolding all_below
  low = all_of _ (length (row_of o cs i)) (λ k l. lt-ltb (get_or (row_of o cs i) k 0) 4096 (omega (arith, row_column_below o cs entries i k h l)))

  pub markable : length cs ≤ 65535 → Markable (row_of o cs i)
  unfolding all_once
  markable few =
      record { few = omega (arith, ends, long); below = low; single = all_at (λ k. once (row_of o cs k)) i (rows_of o) (columns_once o cs entries) h }

-- row i of both patterns
module _ {starts entries o cs : List ℕ} (fit : Patterns starts entries o cs) (i : ℕ) (h : i < rows_of starts) where
  there : i < rows_of o
  there = omega (arith, fit.same)

  most : rows_of o ≤ 4096
  most = omega (arith, fit.same, fit.most)

  -- the ends of its parts are in order and within their lists
  pub both_ends : (get_or starts i 0 ≤ get_or starts (i + 1) 0) × (get_or starts (i + 1) 0 ≤ length entries) × (get_or o i 0 ≤ get_or o (i + 1) 0) × (get_or o (i + 1) 0 ≤ length cs)
  both_ends =
      let a = ends starts entries fit.valid fit.most i h in
      let b = ends o cs fit.valid_factor most i there in
      (a.0, a.1, b.0, b.1)

  -- what its lookups ask
  pub looks : (Markable (row_of o cs i)) × (all_below 4096 (row_of starts entries i) ≡ true)
  looks = (markable o cs fit.valid_factor most i there fit.few_columns, low starts entries fit.valid fit.most i h)
