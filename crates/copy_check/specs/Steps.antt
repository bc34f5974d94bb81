-- What the functions that look places up ask and promise: rows that begin alike, and two patterns of one number of rows. No public promise cites these.
-- Definitions only.
use Rattle.std.specs.Prelude.{◌≡◌, List, true, ℕ, ◌≤◌, ◌<◌, length, get_or}
use Rattle.patterns.specs.Pattern.{rows_of, valid_pattern}

-- two rows begin with the same m columns
pub record Agree (row from : List ℕ) (m : ℕ) : Type 0 where
  pub in_row : m ≤ length row
  pub in_from : m ≤ length from
  pub same : (k : ℕ) → k < m → get_or row k 0 ≡ get_or from k 0

-- two valid patterns of one number of rows, neither too large
pub record Patterns (starts entries offsets columns : List ℕ) : Type 0 where
  pub some : 1 ≤ length starts
  pub most : rows_of starts ≤ 4096
  pub few : length entries ≤ 65535
  pub few_columns : length columns ≤ 65535
  pub same : length offsets ≡ length starts
  pub valid : valid_pattern starts entries ≡ true
  pub valid_factor : valid_pattern offsets columns ≡ true
