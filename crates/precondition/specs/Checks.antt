-- What the calls refuse, in checking order: the lengths first, then the pattern, then sorted rows and splits.
-- Definitions only.
use Rattle.std.specs.Prelude.{List, [], ◌∷◌, Bool, ◌||◌, ℕ, ◌-◌, length}
use Rattle.answers.specs.Checks.{Check, ◌when◌}
use Rattle.answers.specs.Limits.{wrong_length}
use Rattle.patterns.specs.Checks.{too_large}
use Rattle.factor_check.specs.Checks.{wrong_factor, row_checks}

-- the lengths of the factor, and a vector of N values to each row
abbrev pub wrong_shape : ℕ → ℕ → ℕ → ℕ → ℕ → ℕ → ℕ → Bool
wrong_shape n rows entries splits diagonal values vec = wrong_factor n rows entries splits diagonal values || wrong_length rows n vec

-- the checks by the lengths
abbrev pub solve_lengths : ℕ → ℕ → ℕ → ℕ → ℕ → ℕ → ℕ → List Check
solve_lengths n offsets columns splits diagonal values vec =
    (1 when too_large offsets columns) ∷ (2 when wrong_shape n (offsets - 1) columns splits diagonal values vec) ∷ []

-- then 3, of the pattern, and 11, of its rows and splits
abbrev pub solve_checks : ℕ → List ℕ → List ℕ → List ℕ → ℕ → ℕ → ℕ → List Check
solve_checks n offsets columns splits diagonal values vec =
    (1 when too_large (length offsets) (length columns))
    ∷ (2 when wrong_shape n (length offsets - 1) (length columns) (length splits) diagonal values vec) ∷ row_checks offsets columns splits
