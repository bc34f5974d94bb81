-- What every call on a factor refuses of the factor itself: a length, then the pattern, then its rows and splits.
-- Definitions only.
use Rattle.std.specs.Prelude.{List, [], ◌∷◌, Bool, not, ◌||◌, ℕ, eqb}
use Rattle.answers.specs.Checks.{Check, ◌when◌}
use Rattle.patterns.specs.Pattern.{valid_pattern, valid_splits}
use Rattle.matrix.specs.Checks.{wrong_values}

-- a split to each row, and a block to each row and to each entry
abbrev pub wrong_factor : ℕ → ℕ → ℕ → ℕ → ℕ → ℕ → Bool
wrong_factor n rows entries splits diagonal values = wrong_values n rows entries values diagonal || not (eqb splits rows)

-- 3, of the pattern, and 11, of its rows and splits
abbrev pub row_checks : List ℕ → List ℕ → List ℕ → List Check
row_checks offsets columns splits = (3 when not (valid_pattern offsets columns)) ∷ (11 when not (valid_splits offsets columns splits)) ∷ []
