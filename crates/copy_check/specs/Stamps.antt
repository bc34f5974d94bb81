-- What the quick way finds: the columns of A's row are some of the factor's, each once. The factor's get a stamp, and each of A's takes one away. No public promise cites these.
-- Definitions only.
use Rattle.std.specs.Prelude.{◌≡◌, List, ℕ, ◌+◌, ◌<◌, length, get_or}
use Rattle.patterns.specs.Pattern.{row_of}
use Rattle.patterns.specs.Marks.{Below}

-- a column stands in a row
abbrev pub Holds : List ℕ → ℕ → Type 0
Holds row column = (k : ℕ) × (k < length row) × (get_or row k 0 ≡ column)

-- no column has the stamp but those of a row
abbrev pub Only : ℕ → List ℕ → List ℕ → Type 0
Only stamp row marks = (v : ℕ) → get_or marks v 0 ≡ stamp → Holds row v

-- the first k columns of A's row have taken their stamps, which only columns of the factor's row had
pub record Taken (stamp : ℕ) (row from marks : List ℕ) (k : ℕ) : Type 0 where
  pub below : Below (stamp + 1) marks
  pub only : Only stamp row marks
  pub gone : (j : ℕ) → j < k → get_or marks (get_or from j 0) 0 ≡ stamp → ⊥
  pub held : (j : ℕ) → j < k → Holds row (get_or from j 0)
  pub apart : (i j : ℕ) → i < j → j < k → get_or from i 0 ≡ get_or from j 0 → ⊥

-- so have those up to place k, if those up to place j had
abbrev pub Takes : ℕ → List ℕ → ℕ → ℕ → List ℕ → List ℕ → Type 0
Takes stamp from j k old new = (row : List ℕ) → Taken stamp row from old j → Taken stamp row from new k

-- each column of A's row is one of the factor's row, and stands once
pub record Placed (row from : List ℕ) : Type 0 where
  pub held : (j : ℕ) → j < length from → Holds row (get_or from j 0)
  pub apart : (i j : ℕ) → i < j → j < length from → get_or from i 0 ≡ get_or from j 0 → ⊥

-- so are the first m rows
abbrev pub PlacedRows : List ℕ → List ℕ → List ℕ → List ℕ → ℕ → Type 0
PlacedRows starts entries offsets columns m = (i : ℕ) → i < m → Placed (row_of offsets columns i) (row_of starts entries i)
