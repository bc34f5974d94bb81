-- What the promise of `initialize_iluk` says of a call that is done: row i holds j exactly if a nested walk leads from i to j.
-- Assumes nothing.
use mathlib.Core.Path.{◌≡◌}
use mathlib.Core.Logic.{◌≢◌, ◌↔◌}
use mathlib.Core.List.{List}
use Prim.Native.Nat.{ℕ, suc, ◌+◌, ◌≤◌, ◌<◌}
use lib.ListN.{length, get_or}
use Rattle.std.specs.Prelude.{Ok}
use Rattle.patterns.specs.Pattern.{rows_of, row_of}
use Rattle.walks.specs.Levels.{level_of}
use Rattle.walks.specs.Nesting.{Nested}
use Rattle.fill.specs.Fill.{stored, columns_from, fill_offsets, fill_splits}
use Rattle.fill.proofs.ColumnLaws.{In}
use Rattle.fill.proofs.Meaning.{written_row, fill_walks, rows_rise, split_true}
use Rattle.iluk.specs.Iluk.{Initialized}

module _ (k : ℕ) (starts entries offsets columns splits levels row offsets' columns' splits' levels' row' : List ℕ)
    (I : Initialized k starts entries offsets columns splits levels row (Ok tt) offsets' columns' splits' levels' row') where
  -- Demand 3. Row i of the written pattern holds column j exactly if stored entries of A form a walk from i to j whose rows in between are lower than
  -- both, with nesting at most k.
  pub demand_3 : (i j : ℕ) → i < rows_of starts → j < rows_of starts → i ≢ j → In j (row_of offsets' columns' i) ↔ ((walk : List ℕ) × Nested (stored starts entries) i j k walk)
  unfolding fill_offsets
  demand_3 i j hi hj ne = rw (I.offsets_are, I.columns_are) (fill_walks (stored starts entries) k (rows_of starts) (length columns) i j hi hj ne)

  -- Row i is the rising list of the columns that have a level.
  pub done_row : (i : ℕ) → i < rows_of starts → row_of offsets' columns' i ≡ columns_from (level_of (stored starts entries) k i) 0 (rows_of starts)
  unfolding fill_offsets
  done_row i h = rw (I.offsets_are, I.columns_are) (written_row (stored starts entries) k (rows_of starts) (length columns) i h)

  pub done_rises : (i e : ℕ) → i < rows_of starts → suc e < length (row_of offsets' columns' i) → get_or (row_of offsets' columns' i) e 0 < get_or (row_of offsets' columns' i) (suc e) 0
  unfolding fill_offsets
  done_rises i e h = rw (I.offsets_are, I.columns_are) (rows_rise (stored starts entries) k (rows_of starts) (length columns) i e h)

  -- Its split is true: columns before it are lower than i, and those from it on exceed i.
  pub done_split : (i e : ℕ) → i < rows_of starts → e < length (row_of offsets' columns' i)
      → (get_or offsets' i 0 + e < get_or splits' i 0 → get_or (row_of offsets' columns' i) e 0 < i) × (get_or splits' i 0 ≤ get_or offsets' i 0 + e → i < get_or (row_of offsets' columns' i) e 0)
  unfolding fill_offsets fill_splits
  done_split i e h = rw (I.offsets_are, I.columns_are, I.splits_are) (split_true (stored starts entries) k (rows_of starts) (length columns) i e h)
