-- What `blkcsr` on lent bytes refuses with 2 before the words are read, as counts of bytes: `merge` and `csrdia` look at these bytes too.
-- Definitions only. The call's own checks, on the words that the bytes hold, come after these.
use Rattle.std.specs.Prelude.{Bool, ◌||◌, ℕ}
use Rattle.answers.specs.Limits.{outside_of}
use Rattle.pattern_bytes.specs.Checks.{broken, broken_pattern}

-- an element's nodes have 4 bytes each, its values 8
abbrev pub broken_element : ℕ → ℕ → ℕ → Bool
broken_element rows cols element = broken 4 rows || (broken 4 cols || broken 8 element)

-- and its matrix, which has no diagonal
abbrev pub broken_entries : ℕ → ℕ → ℕ → ℕ → ℕ → ℕ → Bool
broken_entries rows cols element offsets columns values = broken_element rows cols element || (broken_pattern offsets columns || broken 8 values)

-- or N is none of 1, 2, 3
abbrev pub misshapen_blkcsr : ℕ → ℕ → ℕ → ℕ → ℕ → ℕ → ℕ → Bool
misshapen_blkcsr dim rows cols element offsets columns values = outside_of 1 3 dim || broken_entries rows cols element offsets columns values
