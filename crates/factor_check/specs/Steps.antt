-- What the quick check of a factor counts and finds: for the promises of the functions inside. No public promise cites these.
-- Definitions only.
use Rattle.std.specs.Prelude.{◌≡◌, List, Bool, cond, ◌&&◌, ℕ, zero, suc, ◌+◌, ◌-◌, ◌≤◌, ◌<◌, ltb, leb, length, get_or}
use Rattle.patterns.specs.Pattern.{rows_of}

-- 1 for a test that holds
abbrev pub one_if : Bool → ℕ
one_if test = cond test 1 0

-- how many of the first m places pass a test
unfoldable pub count_to : (ℕ → Bool) → ℕ → ℕ
count_to p zero = 0
count_to p (suc m) = count_to p m + one_if (p m)

-- the step from column e to the next, if there is a next, does not rise
unfoldable pub falls_at : List ℕ → ℕ → Bool
falls_at columns e = ltb (e + 1) (length columns) && leb (get_or columns (e + 1) 0) (get_or columns e 0)

-- so does the step over the end of a row that has columns, from place a to below b
unfoldable pub end_falls : List ℕ → ℕ → ℕ → Bool
end_falls columns a b = ltb a b && falls_at columns (b - 1)

-- the end of row i
unfoldable pub end_falls_at : List ℕ → List ℕ → ℕ → Bool
end_falls_at offsets columns i = end_falls columns (get_or offsets i 0) (get_or offsets (i + 1) 0)

-- the split s of row i, which goes from place a to below b: the columns beside it, where there are any, are on their sides of i
pub record Apart (i a s b : ℕ) (columns : List ℕ) : Type 0 where
  pub from : a ≤ s
  pub to : s ≤ b
  pub low : a < s → get_or columns (s - 1) 0 < i
  pub high : s < b → i < get_or columns s 0

-- such a row, whose last column is below n, and what its end adds to the count
pub record RightRow (n i a s b : ℕ) (columns : List ℕ) (count : ℕ) : Type 0 where
  pub apart : Apart i a s b columns
  pub within : b ≤ length columns
  pub last : a < b → get_or columns (b - 1) 0 < n
  pub counted : count ≡ one_if (end_falls columns a b)

-- row i of a pattern
abbrev pub RightRowAt : List ℕ → List ℕ → List ℕ → ℕ → Type 0
RightRowAt offsets columns splits i =
    RightRow (rows_of offsets) i (get_or offsets i 0) (get_or splits i 0) (get_or offsets (i + 1) 0) columns (one_if (end_falls_at offsets columns i))

-- all rows are so, and the steps over their ends that do not rise are as many as all
pub record RightRows (offsets columns splits : List ℕ) (all : ℕ) : Type 0 where
  pub each : (i : ℕ) → i < rows_of offsets → RightRowAt offsets columns splits i
  pub counted : all ≡ count_to (end_falls_at offsets columns) (rows_of offsets)
