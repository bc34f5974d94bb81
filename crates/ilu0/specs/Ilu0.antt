-- The promise of `initialize_ilu0`: "rows of A sorted, splits set". Its number, and every lent word afterwards.
-- Definitions only.
use Rattle.answers.specs.Numbers.{Answer}
use Rattle.std.specs.Prelude.{◌≡◌, List, [], ◌∷◌, ◌++◌, not, ℕ, ◌-◌, ltb, length, replicate}
use Rattle.answers.specs.Numbers.{number_of}
use Rattle.answers.specs.Checks.{Check, ◌when◌, first_of}
use Rattle.patterns.specs.Pattern.{rows_of, row_of, split_of, valid_pattern}
use Rattle.patterns.specs.Checks.{too_large}
use Rattle.rows.specs.Sort.{sort_of}
use Rattle.fill.specs.Fill.{joined, listed}
use Rattle.fill.specs.Promise.{leaves, wrong_outputs}

-- the rows of A before i, each sorted
unfoldable pub sorted_rows : List ℕ → List ℕ → ℕ → List ℕ
unfolding joined
sorted_rows starts entries = joined (λ i. sort_of (row_of starts entries i))

-- the split of each row of the sorted pattern
unfoldable pub sorted_splits : List ℕ → List ℕ → List ℕ
unfolding listed sorted_rows
sorted_splits starts entries = listed (split_of starts (sorted_rows starts entries (rows_of starts))) 0 (rows_of starts)

-- 1 to 3, and 4: A has more entries than there is room
abbrev pub ilu0_checks : List ℕ → List ℕ → ℕ → ℕ → ℕ → List Check
ilu0_checks starts entries offsets columns splits =
    (1 when too_large (length starts) (length entries)) ∷ (2 when wrong_outputs (rows_of starts) offsets columns splits)
    ∷ (3 when not (valid_pattern starts entries)) ∷ (4 when ltb columns (length entries)) ∷ []

-- The pattern A is lent as starts and entries. The outputs hold its offsets, its sorted rows with zeros past the last entry, and the splits.
pub record Sorted (starts entries offsets columns splits : List ℕ) (answer : Answer) (offsets' columns' splits' : List ℕ) : Type 0 where
  pub number : number_of answer ≡ first_of (ilu0_checks starts entries (length offsets) (length columns) (length splits))
  pub offsets_are : offsets' ≡ leaves (number_of answer) starts offsets
  pub columns_are : columns' ≡ leaves (number_of answer) (sorted_rows starts entries (rows_of starts) ++ replicate (length columns - length entries) 0) columns
  pub splits_are : splits' ≡ leaves (number_of answer) (sorted_splits starts entries) splits
