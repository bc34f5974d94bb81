-- The calls that write the matrix itself, by one name each: their checks, and what they make of its values.
-- Definitions only.
use Rattle.std.specs.Prelude.{List, ℕ, ℤ, Float}
use Rattle.std.specs.Float.{Format}
use Rattle.answers.specs.Checks.{Check}
use Rattle.patterns.specs.Pattern.{rows_of}
use Rattle.vectors.specs.Vectors.{zeroed}
use Rattle.matrix.specs.Checks.{matrix_checks, vector_checks}
use Rattle.fixing.specs.Fixing.{fix_diagonal, fix_values}
use Rattle.fixing_bytes.specs.declared.Operation.{Operation}
use Rattle.fixing_bytes.specs.declared.Operation.TheVariants.{SetZero, SetFixedBc}

-- the last number is that of the flags
abbrev pub checks_of : Operation → ℕ → List ℕ → List ℕ → ℕ → ℕ → ℕ → List Check
checks_of SetZero dim offsets columns values diagonal flags = matrix_checks dim offsets columns values diagonal
checks_of SetFixedBc dim offsets columns values diagonal flags = vector_checks dim offsets columns values diagonal flags flags

-- what the values of the entries become
abbrev pub new_values : Format → Operation → ℕ → List ℤ → List ℕ → List ℕ → List Float → List Float
new_values f SetZero dim flags offsets columns values = zeroed f values
new_values f SetFixedBc dim flags offsets columns values = fix_values f dim flags offsets columns values

-- and those of the diagonal
abbrev pub new_diagonal : Format → Operation → ℕ → Float → List ℤ → List ℕ → List Float → List Float
new_diagonal f SetZero dim valDia flags offsets diagonal = zeroed f diagonal
new_diagonal f SetFixedBc dim valDia flags offsets diagonal = fix_diagonal f dim valDia flags (rows_of offsets) diagonal
