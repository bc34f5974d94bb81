-- What the pattern calls refuse, in checking order.
-- Definitions only.
use Rattle.std.specs.Prelude.{List, [], ◌∷◌, Bool, not, ◌||◌, ℕ, ◌-◌, eqb, length}
use Rattle.answers.specs.Checks.{Check, ◌when◌}
use Rattle.answers.specs.Limits.{rows_out_of_range, entries_out_of_range}
use Rattle.patterns.specs.Pattern.{rows_of, valid_entries, valid_pattern, valid_splits}

-- 1: n is 0, which is offsets of length 0 or 1, or above 4,096; or there are more than 65,535 columns
abbrev pub too_large : ℕ → ℕ → Bool
too_large offsets columns = rows_out_of_range (offsets - 1) || entries_out_of_range columns

-- the checks of a pattern of A
abbrev pub pattern_checks : List ℕ → List ℕ → List Check
pattern_checks offsets columns = (1 when too_large (length offsets) (length columns)) ∷ (3 when not (valid_pattern offsets columns)) ∷ []

-- of a pattern in which a row's own column may stand
abbrev pub entries_checks : List ℕ → List ℕ → List Check
entries_checks offsets columns = (1 when too_large (length offsets) (length columns)) ∷ (3 when not (valid_entries offsets columns)) ∷ []

-- of a factor pattern, which has a split to each row
abbrev pub factor_checks : List ℕ → List ℕ → List ℕ → List Check
factor_checks offsets columns splits =
    (1 when too_large (length offsets) (length columns)) ∷ (2 when not (eqb (length splits) (rows_of offsets))) ∷ (3 when not (valid_pattern offsets columns))
    ∷ (11 when not (valid_splits offsets columns splits)) ∷ []
