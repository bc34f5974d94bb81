-- What the steps of `initialize_ilu0` ask and do: for the promises of the functions inside. No public promise cites these.
-- Definitions only.
use Rattle.std.specs.Prelude.{◌≡◌, List, ◌++◌, true, ℕ, ◌+◌, ◌-◌, ◌≤◌, ◌<◌, ltb, length, get_or, replicate}
use Rattle.base.specs.Each.{each_to}
use Rattle.base.specs.First.{first_in}
use Rattle.patterns.specs.Pattern.{rows_of, row_of, valid_pattern}
use Rattle.rows.specs.Sort.{sort_of}
use Rattle.fill.specs.Fill.{listed}
use Rattle.fill.specs.Steps.{over}
use Rattle.ilu0.specs.Ilu0.{sorted_rows, sorted_splits}

-- n rows lie one after the other in the columns
pub record InOrder (starts : List ℕ) (columns n : ℕ) : Type 0 where
  pub starts_long : length starts ≡ n + 1
  pub few : n ≤ 4096
  pub room : columns ≤ 65535
  pub first : get_or starts 0 0 ≡ 0
  pub ordered : (i : ℕ) → i < n → get_or starts i 0 ≤ get_or starts (i + 1) 0
  pub within : (i : ℕ) → i < n → get_or starts (i + 1) 0 ≤ columns

-- where the sorted row i first exceeds i
unfoldable pub split_in : List ℕ → List ℕ → ℕ → ℕ
split_in starts cs i = get_or starts i 0 + first_in (λ c. ltb i c) (sort_of (row_of starts cs i))

-- the rows before i are sorted
pub record Going (starts : List ℕ) (i : ℕ) (cs₀ ss₀ cs ss : List ℕ) : Type 0 where
  pub rows : i ≤ length ss₀
  pub columns_are : cs ≡ over (sorted_rows starts cs₀ i) cs₀
  pub splits_are : ss ≡ each_to (λ r _. split_in starts cs₀ r) i ss₀

-- all n rows are
pub record RowsSorted (starts cs₀ : List ℕ) (n : ℕ) (cs ss : List ℕ) : Type 0 where
  pub columns_are : cs ≡ over (sorted_rows starts cs₀ n) cs₀
  pub splits_are : ss ≡ listed (split_in starts cs₀) 0 n

-- A is valid and fits, and the lengths are those of its rows
pub record Ready (starts entries : List ℕ) (offsets columns splits : ℕ) : Type 0 where
  pub some_rows : 1 ≤ length starts
  pub valid : valid_pattern starts entries ≡ true
  pub few : splits ≤ 4096
  pub offsets_long : offsets ≡ length starts
  pub splits_long : splits ≡ rows_of starts
  pub room : columns ≤ 65535
  pub fits : length entries ≤ columns

-- what is written
pub record Written (starts entries : List ℕ) (room : ℕ) (o cs ss : List ℕ) : Type 0 where
  pub offsets_are : o ≡ starts
  pub columns_are : cs ≡ sorted_rows starts entries (rows_of starts) ++ replicate (room - length entries) 0
  pub splits_are : ss ≡ sorted_splits starts entries
