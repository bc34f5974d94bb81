-- What the written pattern means: demand 3 of document 01.
-- Assumes nothing.
use mathlib.Core.Path.{◌≡◌, ap}
use mathlib.Core.Logic.{◌≢◌, ◌↔◌}
use mathlib.Core.List.{List, [], ◌++◌}
use Prim.Native.Nat.{ℕ, zero, suc, ◌+◌, ◌-◌, ◌≤◌, ◌<◌}
use native.Mathlib.Nat.{not-suc-le-zero, le_of_suc-le-suc}
use native.Mathlib.Omega.{arith}
use lib.ListN.{length, get_or, replicate, length-append, get_or-append}
use lib.Seq.{get_or-append-add}
use Rattle.patterns.specs.Pattern.{row_of}
use Rattle.walks.specs.Levels.{Pattern, level_of}
use Rattle.walks.specs.Nesting.{Nested}
use Rattle.walks.proofs.LevelLaws.{claim_computed}
use Rattle.fill.specs.Fill.{columns_from, levels_from, fill_columns, start_of, split_at, listed}
use Rattle.fill.proofs.ColumnLaws.{In, column_level, column_stands, columns_rise}
use Rattle.fill.proofs.Lists.{columns_below}
use Rattle.fill.proofs.GoingLaws.{part_of, behind, row_columns, start_more}

pub get_d_listed : (f : ℕ → ℕ) (c d i : ℕ) → i < d → get_or (listed f c d) i 0 ≡ f (c + i)
unfolding listed
get_d_listed f c zero i h = absurd (not-suc-le-zero h)
get_d_listed f c (suc d) zero h = ap f (omega arith)
get_d_listed f c (suc d) (suc i) h = let e : c + suc i ≡ suc c + i = omega arith in rw e (get_d_listed f (suc c) d i (le_of_suc-le-suc h))

module _ (A : Pattern) (k n room : ℕ) where
  -- the offsets, columns and splits that are written
  abbrev pub offsets_w : List ℕ
  offsets_w = listed (start_of A k n) 0 (n + 1)

  abbrev pub columns_w : List ℕ
  columns_w = fill_columns A k n n ++ replicate (room - start_of A k n n) 0

  abbrev pub splits_w : List ℕ
  splits_w = listed (split_at A k n) 0 n

  offset : (i : ℕ) → i ≤ n → get_or offsets_w i 0 ≡ start_of A k n i
  offset i h = let e : 0 + i ≡ i = omega arith in rw e at (get_d_listed (start_of A k n) 0 (n + 1) i (omega arith))

  -- row i is exactly the rising list of the columns that have a level
  pub written_row : (i : ℕ) → i < n → row_of offsets_w columns_w i ≡ columns_from (level_of A k i) 0 n
  unfolding row_of start_of
  written_row i h =
      let b = behind A k n i n h in
      let Z : List ℕ = replicate (room - start_of A k n n) 0 in
      let q : columns_w ≡ (fill_columns A k n i ++ (([] ++ columns_from (level_of A k i) 0 n) ++ b.0)) ++ Z = ap (λ (t : List ℕ). t ++ Z) b.1 in
      let e : start_of A k n (i + 1) ≡ start_of A k n i + length (columns_from (level_of A k i) 0 n) = start_more A k n i in
      rw (offset i (omega arith), offset (i + 1) (omega arith))
      (part_of (fill_columns A k n i) [] (columns_from (level_of A k i) 0 n) b.0 Z columns_w (start_of A k n i) (start_of A k n (i + 1)) q (omega arith) e).0

  -- DEMAND 3: a column stands in row i exactly if a walk leads there whose in-between rows are lower than both, with nesting at most k
  pub fill_walks : (i j : ℕ) → i < n → j < n → i ≢ j → In j (row_of offsets_w columns_w i) ↔ ((w : List ℕ) × Nested A i j k w)
  fill_walks i j hi hj ne = rw (written_row i hi) (
    λ x. (claim_computed A k i j ne).0 (get_or (levels_from (level_of A k i) 0 n) x.0 0, rw x.2 at (column_level (level_of A k i) 0 n x.0 x.1).1),
    λ w. let l = (claim_computed A k i j ne).1 w in column_stands (level_of A k i) 0 n j l.0 (omega arith) (omega arith) l.1,
  )

  -- rows rise strictly
  pub rows_rise : (i e : ℕ) → i < n → suc e < length (row_of offsets_w columns_w i) → get_or (row_of offsets_w columns_w i) e 0 < get_or (row_of offsets_w columns_w i) (suc e) 0
  rows_rise i e hi = rw (written_row i hi) (columns_rise (level_of A k i) 0 n e)

  -- the split is true: columns before it are lower than i, and those from it on exceed i
  pub split_true : (i e : ℕ) → i < n → e < length (row_of offsets_w columns_w i)
      → (get_or offsets_w i 0 + e < get_or splits_w i 0 → get_or (row_of offsets_w columns_w i) e 0 < i) × (get_or splits_w i 0 ≤ get_or offsets_w i 0 + e → i < get_or (row_of offsets_w columns_w i) e 0)
  unfolding split_at
  split_true i e hi =
      let z : 0 + i ≡ i = omega arith in
      let s : get_or splits_w i 0 ≡ split_at A k n i = rw z at (get_d_listed (split_at A k n) 0 n i hi) in
      let f = level_of A k i in
      let lo = columns_from f 0 i in
      let up = columns_from f (i + 1) (n - (i + 1)) in
      rw (written_row i hi, s, offset i (omega arith), row_columns A k n i hi) (λ b. (
        λ h. let y : e < length lo = omega arith in rw (get_or-append lo up 0 e y) (omega (arith, columns_below f 0 i e y)),
        λ h. above lo up e b (omega arith) (λ x q. (column_level f (i + 1) (n - (i + 1)) x q).0),
      ))
    where
      above : (lo up : List ℕ) (e : ℕ) → e < length (lo ++ up) → length lo ≤ e → ((x : ℕ) → x < length up → i + 1 ≤ get_or up x 0) → i < get_or (lo ++ up) e 0
      above lo up e b h r =
          let y : length lo + (e - length lo) ≡ e = omega arith in
          let v = r (e - length lo) (omega (arith, length-append lo up)) in
          rw (← y, get_or-append-add lo up (e - length lo) 0) (omega (arith, v))
