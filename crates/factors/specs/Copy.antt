-- Document 01's `copy_value`, at any format f and any N: "diagonal copied, entries not in A +0".
-- Definitions only. A is lent as starts and entries, the factor's pattern as offsets and columns.
use Rattle.std.specs.Prelude.{List, [], ◌++◌, Bool, not, cond, ℕ, zero, suc, ◌+◌, ◌*◌, eqb, length, get_or, Float}
use Rattle.std.specs.Float.{Format}
use Rattle.base.specs.All.{all_to}
use Rattle.blocks.specs.Block.{plus_zero, listed}
use Rattle.blocks.specs.Lent.{block_at}
use Rattle.patterns.specs.Pattern.{rows_of, row_of}
use Rattle.rows.specs.Lookup.{no_place, place_in}

-- column k of a row of A has a place in the factor's row
unfoldable pub has_place : List ℕ → List ℕ → ℕ → Bool
has_place row from k = not (eqb (place_in row (get_or from k 0)) no_place)

-- and so has every column of the row
unfoldable pub row_has_places : List ℕ → List ℕ → Bool
row_has_places row from = all_to (has_place row from) (length from)

-- 8 is answered where this does not hold: every entry of A has its place in the factor
unfoldable pub all_have_places : List ℕ → List ℕ → List ℕ → List ℕ → Bool
all_have_places starts entries offsets columns = all_to (λ i. row_has_places (row_of offsets columns i) (row_of starts entries i)) (rows_of starts)

-- the m lists g 0, g 1, .., g (m - 1), one after the other
unfoldable pub joined : ℕ → (ℕ → List Float) → List Float
joined zero g = []
joined (suc m) g = joined m g ++ g m

-- a block of +0
abbrev pub zero_block : Format → ℕ → List Float
zero_block f n = listed (n * n) (λ k. plus_zero f)

-- the block at a place of A's row, which begins at place `first` of all entries, and +0 at "no place"
unfoldable pub block_or_zero : Format → ℕ → List Float → ℕ → ℕ → List Float
block_or_zero f n values first place = cond (eqb place no_place) (zero_block f n) (block_at n values (first + place))

-- the block that the factor has at a column of a row: that of A, or +0 where A has none
unfoldable pub copied_block : Format → ℕ → List ℕ → ℕ → List Float → ℕ → List Float
copied_block f n from first values column = block_or_zero f n values first (place_in from column)

-- the blocks of a row
unfoldable pub copied_row : Format → ℕ → List ℕ → ℕ → List Float → List ℕ → List Float
copied_row f n from first values row = joined (length row) (λ k. copied_block f n from first values (get_or row k 0))

-- the blocks of all rows
unfoldable pub copied_rows : Format → ℕ → List ℕ → List ℕ → List Float → List ℕ → List ℕ → List Float
copied_rows f n starts entries values offsets columns =
    joined (rows_of offsets) (λ i. copied_row f n (row_of starts entries i) (get_or starts i 0) values (row_of offsets columns i))
