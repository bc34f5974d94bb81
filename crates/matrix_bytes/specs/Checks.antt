-- What the matrix calls on lent bytes refuse with 2 before the words are read.
-- Definitions only.
use Rattle.std.specs.Prelude.{Bool, ◌||◌, ℕ}
use Rattle.answers.specs.Limits.{outside_of}
use Rattle.pattern_bytes.specs.Checks.{broken, broken_pattern}

-- N is none of 1, 2, 3, or the bytes of the matrix make no whole words
abbrev pub misshapen : ℕ → ℕ → ℕ → ℕ → ℕ → Bool
misshapen dim offsets columns values diagonal = outside_of 1 3 dim || (broken_pattern offsets columns || (broken 8 values || broken 8 diagonal))

-- or those of the two vectors
abbrev pub misshapen_vectors : ℕ → ℕ → ℕ → ℕ → ℕ → ℕ → ℕ → Bool
misshapen_vectors dim offsets columns values diagonal y x = misshapen dim offsets columns values diagonal || (broken 8 y || broken 8 x)

-- or those of the flags
abbrev pub misshapen_flags : ℕ → ℕ → ℕ → ℕ → ℕ → ℕ → Bool
misshapen_flags dim offsets columns values diagonal flags = misshapen dim offsets columns values diagonal || broken 4 flags
