-- A test of the values of a row, and what the functions of the crate that check nothing ask of lengths. No public promise cites these.
-- Definitions only.
use Rattle.std.specs.Prelude.{List, Bool, false, ◌||◌, ℕ, zero, suc, ◌+◌, ◌*◌, ◌≤◌, ◌<◌, length, get_or}

-- p holds at one of 0, 1, .., m - 1
abbrev pub any_to : ℕ → (ℕ → Bool) → Bool
any_to zero p = false
any_to (suc m) p = any_to m p || p m

-- the entries of row i: each has its block in the values, and each column its flags
pub record RowFits (n i : ℕ) (row : List ℕ) (first values flags : ℕ) : Type 0 where
  pub stored : n * n * (first + length row) ≤ values
  pub here : n * i + n ≤ flags
  pub seen : (k : ℕ) → k < length row → n * get_or row k 0 + n ≤ flags
