-- Document 01's "Nesting of a walk".
-- Definitions only.
use Rattle.std.specs.Prelude.{◌≡◌, Bool, true, not, ◌&&◌, ◌||◌, List, ℕ, suc, ◌-◌, ◌≤◌, ◌<◌, min, max, leb, ltb, length, get_or}
use Rattle.base.specs.All.{all_to}
use Rattle.walks.specs.Levels.{Pattern}
use Rattle.walks.specs.Counting.{count, largest}

-- A walk is the list of its rows, and its places are 0, 1, .. up to the last. The row at a place:
abbrev pub row : List ℕ → ℕ → ℕ
row walk place = get_or walk place 0

-- "A walk from i to j goes along stored entries of A: (i,p), (p,q), ... , (z,j)." There is at least one. A row may come again.
pub record Walk (A : Pattern) (i j : ℕ) (walk : List ℕ) : Type 0 where
  pub long : 1 < length walk
  pub first : row walk 0 ≡ i
  pub last : row walk (length walk - 1) ≡ j
  pub stored : (s : ℕ) → suc s < length walk → A (row walk s) (row walk (suc s)) ≡ true

-- the rows in between are lower than both i and j
abbrev pub Lower : ℕ → ℕ → List ℕ → Type 0
Lower i j walk = (s : ℕ) → 0 < s → suc s < length walk → (row walk s < i) × (row walk s < j)

-- a place is "between the ends" of a walk of n places
abbrev pub between : ℕ → ℕ → Bool
between n x = ltb 0 x && ltb (suc x) n

-- place z is one of those from place x to place y, either way, both counted
abbrev pub from_to : ℕ → ℕ → ℕ → Bool
from_to x y z = leb (min x y) z && leb z (max x y)

-- "A place between the ends covers a place if no row from the one to the other, both counted, is higher than the row at the first." The rows are those at n places.
abbrev pub covers : (ℕ → ℕ) → ℕ → ℕ → ℕ → Bool
covers row_at n x y = between n x && all_to (λ z. not (from_to x y z) || leb (row_at z) (row_at x)) n

-- the number of places that cover place y
abbrev pub covering : (ℕ → ℕ) → ℕ → ℕ → ℕ
covering row_at n y = count n (λ x. covers row_at n x y)

-- "Nesting is the largest number of places covering one place"
unfoldable pub nesting : List ℕ → ℕ
unfolding all_to
nesting walk = largest (length walk) (covering (row walk) (length walk))

-- A walk from i to j whose rows in between are lower than both, with nesting at most k.
pub record Nested (A : Pattern) (i j k : ℕ) (walk : List ℕ) : Type 0 where
  pub along : Walk A i j walk
  pub lower : Lower i j walk
  pub nested : nesting walk ≤ k
