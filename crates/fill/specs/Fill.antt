-- The fill of a pattern at level k: rows of the columns that have a level, their offsets and their splits.
-- Definitions only.
use Rattle.std.specs.Prelude.{List, [], ◌∷◌, ◌++◌, not, ℕ, zero, suc, ◌+◌, length}
use Rattle.std.proofs.Math.Option.{Option, none, some}
use Rattle.patterns.specs.Pattern.{absent_to, row_of}
use Rattle.walks.specs.Levels.{Pattern, level_of}

-- the pattern of lent offsets and columns: (i, j) is stored if j is one of row i's columns
unfoldable pub stored : List ℕ → List ℕ → Pattern
unfolding absent_to row_of
stored o cs i j = not (absent_to (row_of o cs i) j (length (row_of o cs i)))

-- a column that has a level, as a list of one, and none otherwise
abbrev pub column_at : Option ℕ → ℕ → List ℕ
column_at none c = []
column_at (some l) c = c ∷ []

-- its level likewise
abbrev pub level_at : Option ℕ → List ℕ
level_at none = []
level_at (some l) = l ∷ []

-- of the d columns from c on, those that f gives a level, rising
unfoldable pub columns_from : (ℕ → Option ℕ) → ℕ → ℕ → List ℕ
columns_from f c zero = []
columns_from f c (suc d) = column_at (f c) c ++ columns_from f (suc c) d

-- and their levels
unfoldable pub levels_from : (ℕ → Option ℕ) → ℕ → ℕ → List ℕ
levels_from f c zero = []
levels_from f c (suc d) = level_at (f c) ++ levels_from f (suc c) d

-- the rows before i, one after the other
unfoldable pub joined : (ℕ → List ℕ) → ℕ → List ℕ
joined row zero = []
joined row (suc i) = joined row i ++ row i

-- the columns of the rows before i, in order
unfoldable pub fill_columns : Pattern → ℕ → ℕ → ℕ → List ℕ
unfolding columns_from
fill_columns A k n zero = []
fill_columns A k n (suc i) = fill_columns A k n i ++ columns_from (level_of A k i) 0 n

-- and their levels
unfoldable pub fill_levels : Pattern → ℕ → ℕ → ℕ → List ℕ
unfolding levels_from
fill_levels A k n zero = []
fill_levels A k n (suc i) = fill_levels A k n i ++ levels_from (level_of A k i) 0 n

-- where row i begins: the number of columns of the rows before it
unfoldable pub start_of : Pattern → ℕ → ℕ → ℕ → ℕ
unfolding fill_columns
start_of A k n i = length (fill_columns A k n i)

-- where row i's columns first exceed i
unfoldable pub split_at : Pattern → ℕ → ℕ → ℕ → ℕ
unfolding start_of columns_from
split_at A k n i = start_of A k n i + length (columns_from (level_of A k i) 0 i)

-- f c, f (c + 1), .., d of them
unfoldable pub listed : (ℕ → ℕ) → ℕ → ℕ → List ℕ
listed f c zero = []
listed f c (suc d) = f c ∷ listed f (suc c) d

-- the offsets of n rows: where each begins, and the last one's end
unfoldable pub fill_offsets : Pattern → ℕ → ℕ → List ℕ
unfolding listed start_of
fill_offsets A k n = listed (start_of A k n) 0 (n + 1)

-- their splits
unfoldable pub fill_splits : Pattern → ℕ → ℕ → List ℕ
unfolding listed split_at
fill_splits A k n = listed (split_at A k n) 0 n
