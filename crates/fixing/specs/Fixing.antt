-- Document 01's `set_fixed_bc`, at any format f and any N: what fixed values make of the diagonal and of the entries.
-- Definitions only.
use Rattle.std.specs.Prelude.{List, Bool, cond, ◌||◌, ℕ, ◌+◌, ◌*◌, eqb, ℤ, pos, length, get_or, Float}
use Rattle.std.specs.Float.{Format}
use Rattle.base.specs.Iterate.{iterate}
use Rattle.blocks.specs.Block.{plus_zero, element, block_of}
use Rattle.blocks.specs.Lent.{block_at, put_at}
use Rattle.patterns.specs.Pattern.{rows_of, row_of}
use Rattle.vectors.specs.Vectors.{fixes}

-- value r of row i is fixed: its flag is the one of number N * i + r
abbrev pub is_fixed : ℕ → List ℤ → ℕ → ℕ → Bool
is_fixed n flags i r = fixes (get_or flags (n * i + r) (pos 0))

-- what becomes of value x at (r, c) of a diagonal block: on the diagonal valDia if r is fixed, elsewhere +0 in a fixed row or column; all else stays
abbrev pub diagonal_value : Format → Float → (ℕ → Bool) → ℕ → ℕ → Float → Float
diagonal_value f valDia fixed r c x = cond (eqb r c) (cond (fixed r) valDia x) (cond (fixed r || fixed c) (plus_zero f) x)

abbrev pub fixed_diagonal : Format → ℕ → Float → (ℕ → Bool) → List Float → List Float
fixed_diagonal f n valDia fixed a = block_of n (λ r c. diagonal_value f valDia fixed r c (element n a r c))

-- and at (r, c) of an entry's block: +0 if its row value or its column value is fixed
abbrev pub entry_value : Format → (ℕ → Bool) → (ℕ → Bool) → ℕ → ℕ → Float → Float
entry_value f row column r c x = cond (row r || column c) (plus_zero f) x

abbrev pub fixed_entry : Format → ℕ → (ℕ → Bool) → (ℕ → Bool) → List Float → List Float
fixed_entry f n row column a = block_of n (λ r c. entry_value f row column r c (element n a r c))

-- block i of the diagonal, where `fixed` says which values of row i are
unfoldable pub fix_diagonal_at : Format → ℕ → Float → (ℕ → Bool) → ℕ → List Float → List Float
fix_diagonal_at f n valDia fixed i diagonal = put_at (n * n * i) (fixed_diagonal f n valDia fixed (block_at n diagonal i)) diagonal

-- the diagonal of that many rows, block by block
unfoldable pub fix_diagonal : Format → ℕ → Float → List ℤ → ℕ → List Float → List Float
fix_diagonal f n valDia flags rows diagonal = iterate (λ i. fix_diagonal_at f n valDia (is_fixed n flags i) i) 0 rows diagonal

-- the entry at place e, where `row` and `column` say which values of its row and of its column are fixed
unfoldable pub fix_entry_at : Format → ℕ → (ℕ → Bool) → (ℕ → Bool) → ℕ → List Float → List Float
fix_entry_at f n row column e values = put_at (n * n * e) (fixed_entry f n row column (block_at n values e)) values

-- entry k of row i, whose columns begin at place `first`
unfoldable pub fix_entry : Format → ℕ → List ℤ → ℕ → List ℕ → ℕ → ℕ → List Float → List Float
fix_entry f n flags i row first k values = fix_entry_at f n (is_fixed n flags i) (is_fixed n flags (get_or row k 0)) (first + k) values

-- the entries of row i in stored order
unfoldable pub fix_entries : Format → ℕ → List ℤ → ℕ → List ℕ → ℕ → List Float → List Float
fix_entries f n flags i row first values = iterate (fix_entry f n flags i row first) 0 (length row) values

-- row i of a pattern
unfoldable pub fix_row : Format → ℕ → List ℤ → List ℕ → List ℕ → ℕ → List Float → List Float
fix_row f n flags offsets columns i values = fix_entries f n flags i (row_of offsets columns i) (get_or offsets i 0) values

-- the entries of all rows, one row after the other
unfoldable pub fix_values : Format → ℕ → List ℤ → List ℕ → List ℕ → List Float → List Float
fix_values f n flags offsets columns values = iterate (fix_row f n flags offsets columns) 0 (rows_of offsets) values
