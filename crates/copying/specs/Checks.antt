-- What the calls refuse, in checking order: the lengths first, then both patterns, the factor's rows and splits, and entries without a place.
-- Definitions only.
use Rattle.std.specs.Prelude.{List, [], ◌∷◌, ◌++◌, Bool, not, ◌||◌, ℕ, ◌-◌, eqb, length}
use Rattle.answers.specs.Checks.{Check, ◌when◌}
use Rattle.patterns.specs.Pattern.{valid_pattern, valid_splits}
use Rattle.patterns.specs.Checks.{too_large}
use Rattle.matrix.specs.Checks.{wrong_values}
use Rattle.factors.specs.Copy.{all_have_places}

-- the patterns differ in n, or A or the factor has a slice of the wrong length; a factor has a split to each row
abbrev pub wrong_shape : ℕ → ℕ → ℕ → ℕ → ℕ → ℕ → ℕ → ℕ → ℕ → ℕ → Bool
wrong_shape n rows entries a-diagonal a-values factor-rows columns splits diagonal values =
    not (eqb factor-rows rows)
    || (wrong_values n rows entries a-values a-diagonal || (wrong_values n factor-rows columns values diagonal || not (eqb splits factor-rows)))

-- the checks by the lengths
abbrev pub copy_lengths : ℕ → ℕ → ℕ → ℕ → ℕ → ℕ → ℕ → ℕ → ℕ → ℕ → List Check
copy_lengths n starts entries a-diagonal a-values offsets columns splits diagonal values =
    (1 when (too_large starts entries || too_large offsets columns))
    ∷ (2 when wrong_shape n (starts - 1) entries a-diagonal a-values (offsets - 1) columns splits diagonal values) ∷ []

-- and by what the patterns hold
abbrev pub copy_rules : List ℕ → List ℕ → List ℕ → List ℕ → List ℕ → List Check
copy_rules starts entries offsets columns splits =
    (3 when (not (valid_pattern starts entries) || not (valid_pattern offsets columns))) ∷ (11 when not (valid_splits offsets columns splits))
    ∷ (8 when not (all_have_places starts entries offsets columns)) ∷ []

-- all of them
abbrev pub copy_checks : ℕ → List ℕ → List ℕ → ℕ → ℕ → List ℕ → List ℕ → List ℕ → ℕ → ℕ → List Check
copy_checks n starts entries a-diagonal a-values offsets columns splits diagonal values =
    copy_lengths n (length starts) (length entries) a-diagonal a-values (length offsets) (length columns) (length splits) diagonal values
    ++ copy_rules starts entries offsets columns splits
