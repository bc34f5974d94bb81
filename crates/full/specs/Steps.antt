-- What the steps of `initialize_full` ask and do: for the promises of the functions inside. No public promise cites these.
-- Definitions only.
use Rattle.std.specs.Prelude.{◌≡◌, List, ℕ, ◌+◌, ◌-◌, ◌*◌, ◌≤◌}
use Rattle.base.specs.Each.{each_to}
use Rattle.fill.specs.Steps.{over}
use Rattle.full.specs.Full.{full_offsets, full_columns, full_splits}

-- the lengths are those of n rows, and all entries fit
pub record Roomy (n offsets columns splits : ℕ) : Type 0 where
  pub some_rows : 1 ≤ n
  pub few : n ≤ 4096
  pub offsets_long : offsets ≡ n + 1
  pub splits_long : splits ≡ n
  pub room : columns ≤ 65535
  pub fits : n * (n - 1) ≤ columns

-- the rows before i are written, and row i begins at `at`
pub record Going (n i at : ℕ) (o₀ cs₀ ss₀ o cs ss : List ℕ) : Type 0 where
  pub rows : i ≤ n
  pub at_is : at ≡ i * (n - 1)
  pub offsets_are : o ≡ each_to (λ r _. r * (n - 1)) (i + 1) o₀
  pub columns_are : cs ≡ over (full_columns n i) cs₀
  pub splits_are : ss ≡ each_to (λ r _. r * n) i ss₀

-- all rows are
pub record Rows (n : ℕ) (cs₀ o cs ss : List ℕ) : Type 0 where
  pub offsets_are : o ≡ full_offsets n
  pub columns_are : cs ≡ over (full_columns n n) cs₀
  pub splits_are : ss ≡ full_splits n
