-- What the solve on lent bytes refuses with 2 before the words are read.
-- Definitions only.
use Rattle.std.specs.Prelude.{Bool, ◌||◌, ℕ}
use Rattle.pattern_bytes.specs.Checks.{broken}
use Rattle.factor_bytes.specs.Checks.{misshapen_factor}

-- N is none of 1, 2, 3, or the bytes of the factor or of the vector make no whole words
abbrev pub misshapen_solve : ℕ → ℕ → ℕ → ℕ → ℕ → ℕ → ℕ → Bool
misshapen_solve dim offsets columns splits diagonal values vec = misshapen_factor dim offsets columns splits diagonal values || broken 8 vec
