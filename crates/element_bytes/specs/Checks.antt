-- What `merge` and `csrdia` on lent bytes refuse with 2 before the words are read, as counts of bytes.
-- Definitions only. The call's own checks, on the words that the bytes hold, come after these.
use Rattle.std.specs.Prelude.{List, ◌++◌, Bool, ◌||◌, ℕ, ◌/◌}
use Rattle.answers.specs.Checks.{Check}
use Rattle.answers.specs.Limits.{outside_of}
use Rattle.elements.specs.Checks.{element_lengths}
use Rattle.pattern_bytes.specs.Checks.{broken, byte_checks}
use Rattle.entry_bytes.specs.Checks.{broken_entries}

-- with a diagonal
abbrev pub broken_assembly : ℕ → ℕ → ℕ → ℕ → ℕ → ℕ → ℕ → Bool
broken_assembly rows cols element offsets columns diagonal values = broken_entries rows cols element offsets columns values || broken 8 diagonal

-- or N is none of 1, 2, 3: of `merge`, whose nodes are both rows and columns, and of `csrdia`, which has no N
abbrev pub misshapen_merge : ℕ → ℕ → ℕ → ℕ → ℕ → ℕ → ℕ → Bool
misshapen_merge dim nodes element offsets columns diagonal values = outside_of 1 3 dim || broken_assembly nodes nodes element offsets columns diagonal values

abbrev pub misshapen_csrdia : ℕ → ℕ → ℕ → ℕ → ℕ → ℕ → ℕ → Bool
misshapen_csrdia rows cols element offsets columns diagonal values = broken_assembly rows cols element offsets columns diagonal values

-- all checks by lengths, on counts of bytes; no public promise cites these
abbrev pub assembly_lengths : ℕ → ℕ → ℕ → ℕ → ℕ → ℕ → ℕ → ℕ → List Check
assembly_lengths dim rows cols element offsets columns diagonal values =
    byte_checks offsets columns (outside_of 1 3 dim || broken_assembly rows cols element offsets columns diagonal values)
    ++ element_lengths dim (rows / 4) (cols / 4) (element / 8) (offsets / 4) (columns / 4) (diagonal / 8) (values / 8)
