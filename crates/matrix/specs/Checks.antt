-- What the matrix calls refuse, in checking order: the lengths first, then the pattern.
-- Definitions only.
use Rattle.std.specs.Prelude.{List, [], ◌∷◌, Bool, not, ◌||◌, ℕ, ◌-◌, ◌*◌, eqb, length}
use Rattle.answers.specs.Checks.{Check, ◌when◌}
use Rattle.answers.specs.Limits.{wrong_length}
use Rattle.patterns.specs.Pattern.{valid_pattern}
use Rattle.patterns.specs.Checks.{too_large}

-- entry values are B to an entry, diagonal values B to a row
abbrev pub wrong_values : ℕ → ℕ → ℕ → ℕ → ℕ → Bool
wrong_values n rows entries values diagonal = not (eqb values (n * n * entries)) || not (eqb diagonal (n * n * rows))

-- the checks of a matrix by its lengths
abbrev pub matrix_lengths : ℕ → ℕ → ℕ → ℕ → ℕ → List Check
matrix_lengths n offsets columns values diagonal =
    (1 when too_large offsets columns) ∷ (2 when wrong_values n (offsets - 1) columns values diagonal) ∷ []

-- of a matrix and two vectors, or a vector and its flags
abbrev pub vector_lengths : ℕ → ℕ → ℕ → ℕ → ℕ → ℕ → ℕ → List Check
vector_lengths n offsets columns values diagonal first second =
    (1 when too_large offsets columns)
    ∷ (2 when (wrong_values n (offsets - 1) columns values diagonal || (wrong_length (offsets - 1) n first || wrong_length (offsets - 1) n second))) ∷ []

-- then 3, of the pattern
abbrev pub matrix_checks : ℕ → List ℕ → List ℕ → ℕ → ℕ → List Check
matrix_checks n offsets columns values diagonal =
    (1 when too_large (length offsets) (length columns)) ∷ (2 when wrong_values n (length offsets - 1) (length columns) values diagonal)
    ∷ (3 when not (valid_pattern offsets columns)) ∷ []

abbrev pub vector_checks : ℕ → List ℕ → List ℕ → ℕ → ℕ → ℕ → ℕ → List Check
vector_checks n offsets columns values diagonal first second =
    (1 when too_large (length offsets) (length columns))
    ∷ (2 when (wrong_values n (length offsets - 1) (length columns) values diagonal || (wrong_length (length offsets - 1) n first || wrong_length (length offsets - 1) n second)))
    ∷ (3 when not (valid_pattern offsets columns)) ∷ []
