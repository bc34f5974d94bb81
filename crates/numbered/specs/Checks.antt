-- What a call with N as a number looks at before its own checks.
-- Definitions only.
use Rattle.std.specs.Prelude.{List, [], ◌∷◌, ℕ}
use Rattle.answers.specs.Checks.{Check, ◌when◌}
use Rattle.answers.specs.Limits.{outside_of}
use Rattle.patterns.specs.Checks.{too_large}

-- the size of the pattern, then N
abbrev pub dim_checks : ℕ → ℕ → ℕ → List Check
dim_checks dim offsets columns = (1 when too_large offsets columns) ∷ (2 when outside_of 1 3 dim) ∷ []
