-- What the solvers refuse, in checking order: 1, 10, 2, 3, and of a factor 11.
-- Definitions only.
use Rattle.std.specs.Prelude.{List, [], ◌∷◌, ◌++◌, Bool, not, ◌||◌, ℕ, ◌+◌, ◌-◌, eqb, ltb, length}
use Rattle.answers.specs.Checks.{Check, ◌when◌}
use Rattle.answers.specs.Limits.{iterations_out_of_range, wrong_length}
use Rattle.patterns.specs.Pattern.{valid_pattern, valid_splits}
use Rattle.patterns.specs.Checks.{too_large}
use Rattle.matrix.specs.Checks.{wrong_values}
use Rattle.factor_check.specs.Checks.{wrong_factor}

-- the four vectors have N values to a row
abbrev pub wrong_vectors : ℕ → ℕ → ℕ → ℕ → ℕ → ℕ → Bool
wrong_vectors rows n r x q p = wrong_length rows n r || (wrong_length rows n x || (wrong_length rows n q || wrong_length rows n p))

-- plain: a history of at least the limit
abbrev pub wrong_plain : ℕ → ℕ → ℕ → ℕ → ℕ → ℕ → ℕ → ℕ → ℕ → ℕ → ℕ → Bool
wrong_plain n limit rows columns values diagonal r u ap p history =
    wrong_values n rows columns values diagonal || (wrong_vectors rows n r u ap p || ltb history limit)

-- the checks by the lengths
abbrev pub plain_lengths : ℕ → ℕ → ℕ → ℕ → ℕ → ℕ → ℕ → ℕ → ℕ → ℕ → ℕ → List Check
plain_lengths n limit offsets columns values diagonal r u ap p history =
    (1 when too_large offsets columns) ∷ (10 when iterations_out_of_range limit)
    ∷ (2 when wrong_plain n limit (offsets - 1) columns values diagonal r u ap p history) ∷ []

-- then 3, of the pattern
abbrev pub plain_checks : ℕ → ℕ → List ℕ → List ℕ → ℕ → ℕ → ℕ → ℕ → ℕ → ℕ → ℕ → List Check
plain_checks n limit offsets columns values diagonal r u ap p history =
    plain_lengths n limit (length offsets) (length columns) values diagonal r u ap p history ++ ((3 when not (valid_pattern offsets columns)) ∷ [])

-- preconditioned: the patterns have one n, and a history has at least the limit plus 2
abbrev pub wrong_preconditioned : ℕ → ℕ → ℕ → ℕ → ℕ → ℕ → ℕ → ℕ → ℕ → ℕ → ℕ → ℕ → ℕ → ℕ → ℕ → ℕ → Bool
wrong_preconditioned n limit rows entries a-values a-diagonal factor-rows columns splits diagonal values r x pr p history =
    wrong_values n rows entries a-values a-diagonal
    || (not (eqb factor-rows rows) || (wrong_factor n factor-rows columns splits diagonal values || (wrong_vectors rows n r x pr p || ltb history (limit + 2))))

-- the checks by the lengths
abbrev pub preconditioned_lengths : ℕ → ℕ → ℕ → ℕ → ℕ → ℕ → ℕ → ℕ → ℕ → ℕ → ℕ → ℕ → ℕ → ℕ → ℕ → ℕ → List Check
preconditioned_lengths n limit starts entries a-values a-diagonal offsets columns splits diagonal values r x pr p history =
    (1 when (too_large starts entries || too_large offsets columns)) ∷ (10 when iterations_out_of_range limit)
    ∷ (2 when wrong_preconditioned n limit (starts - 1) entries a-values a-diagonal (offsets - 1) columns splits diagonal values r x pr p history) ∷ []

-- then 3, of both patterns, and 11, of the factor's rows and splits
abbrev pub preconditioned_rules : List ℕ → List ℕ → List ℕ → List ℕ → List ℕ → List Check
preconditioned_rules starts entries offsets columns splits =
    (3 when (not (valid_pattern starts entries) || not (valid_pattern offsets columns))) ∷ (11 when not (valid_splits offsets columns splits)) ∷ []

abbrev pub preconditioned_checks : ℕ → ℕ → List ℕ → List ℕ → ℕ → ℕ → List ℕ → List ℕ → List ℕ → ℕ → ℕ → ℕ → ℕ → ℕ → ℕ → ℕ → List Check
preconditioned_checks n limit starts entries a-values a-diagonal offsets columns splits diagonal values r x pr p history =
    preconditioned_lengths n limit (length starts) (length entries) a-values a-diagonal (length offsets) (length columns) (length splits) diagonal values r x pr p history
    ++ preconditioned_rules starts entries offsets columns splits
