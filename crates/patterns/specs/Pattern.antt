-- Document 01's "A valid pattern": the offsets of n rows, and the columns of all rows one after the other. Each rule is over the whole pattern.
-- Definitions only.
use Rattle.std.specs.Prelude.{List, Bool, not, ◌&&◌, ℕ, ◌+◌, ◌-◌, ltb, leb, eqb, length, get_or, take, drop}
use Rattle.base.specs.All.{all_to}
use Rattle.base.specs.First.{first_in}

-- n + 1 offsets: as many rows as all but one, and none where there is no offset
abbrev pub rows_of : List ℕ → ℕ
rows_of offsets = length offsets - 1

-- the columns of row i, from its offset to the next
unfoldable pub row_of : List ℕ → List ℕ → ℕ → List ℕ
row_of offsets columns i = take (get_or offsets (i + 1) 0 - get_or offsets i 0) (drop (get_or offsets i 0) columns)

-- the first offset is 0
unfoldable pub first_is_zero : List ℕ → Bool
first_is_zero offsets = eqb (get_or offsets 0 1) 0

-- offsets never fall
unfoldable pub never_fall : List ℕ → Bool
never_fall offsets = all_to (λ i. leb (get_or offsets i 0) (get_or offsets (i + 1) 0)) (rows_of offsets)

-- the last offset is the number of columns lent
unfoldable pub last_is_count : List ℕ → List ℕ → Bool
last_is_count offsets columns = eqb (get_or offsets (rows_of offsets) 0) (length columns)

-- every column is below n
unfoldable pub all_below : ℕ → List ℕ → Bool
all_below n columns = all_to (λ e. ltb (get_or columns e 0) n) (length columns)

-- a column is none of the first m of a row
unfoldable pub absent_to : List ℕ → ℕ → ℕ → Bool
absent_to row column m = all_to (λ k. not (eqb (get_or row k 0) column)) m

-- every column of a row stands once in it: none is among those before it
unfoldable pub once : List ℕ → Bool
once row = all_to (λ k. absent_to row (get_or row k 0) k) (length row)

unfoldable pub all_once : List ℕ → List ℕ → Bool
all_once offsets columns = all_to (λ i. once (row_of offsets columns i)) (rows_of offsets)

-- the row's own column is absent
unfoldable pub own_absent : ℕ → List ℕ → Bool
own_absent i row = absent_to row i (length row)

unfoldable pub all_own_absent : List ℕ → List ℕ → Bool
all_own_absent offsets columns = all_to (λ i. own_absent i (row_of offsets columns i)) (rows_of offsets)

-- the rules of offsets
unfoldable pub valid_offsets : List ℕ → List ℕ → Bool
valid_offsets offsets columns = first_is_zero offsets && (never_fall offsets && last_is_count offsets columns)

-- a pattern in which a row's own column may stand
unfoldable pub valid_entries : List ℕ → List ℕ → Bool
valid_entries offsets columns = valid_offsets offsets columns && (all_below (rows_of offsets) columns && all_once offsets columns)

-- a valid pattern
unfoldable pub valid_pattern : List ℕ → List ℕ → Bool
valid_pattern offsets columns = valid_entries offsets columns && all_own_absent offsets columns

-- a row rises strictly
unfoldable pub rises : List ℕ → Bool
rises row = all_to (λ k. ltb (get_or row k 0) (get_or row (k + 1) 0)) (length row - 1)

-- in a factor pattern rows rise strictly
unfoldable pub all_rise : List ℕ → List ℕ → Bool
all_rise offsets columns = all_to (λ i. rises (row_of offsets columns i)) (rows_of offsets)

-- the split of row i is the first place whose column exceeds i, or the row's end
unfoldable pub split_of : List ℕ → List ℕ → ℕ → ℕ
split_of offsets columns i = get_or offsets i 0 + first_in (λ c. ltb i c) (row_of offsets columns i)

unfoldable pub true_splits : List ℕ → List ℕ → List ℕ → Bool
true_splits offsets columns splits = all_to (λ i. eqb (get_or splits i 0) (split_of offsets columns i)) (rows_of offsets)

-- sorted rows and true splits
unfoldable pub valid_splits : List ℕ → List ℕ → List ℕ → Bool
valid_splits offsets columns splits = all_rise offsets columns && true_splits offsets columns splits
