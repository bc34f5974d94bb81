-- What the factor's calls on lent bytes refuse with 2 before the words are read, and the checks of a factor by its lengths.
-- Definitions only.
use Rattle.std.specs.Prelude.{List, [], ◌∷◌, Bool, ◌||◌, ℕ, ◌-◌}
use Rattle.answers.specs.Checks.{Check, ◌when◌}
use Rattle.patterns.specs.Checks.{too_large}
use Rattle.factor_check.specs.Checks.{wrong_factor}
use Rattle.pattern_bytes.specs.Checks.{broken}
use Rattle.matrix_bytes.specs.Checks.{misshapen}

-- N is none of 1, 2, 3, or the bytes of the factor make no whole words
abbrev pub misshapen_factor : ℕ → ℕ → ℕ → ℕ → ℕ → ℕ → Bool
misshapen_factor dim offsets columns splits diagonal values = misshapen dim offsets columns values diagonal || broken 4 splits

-- 1, then 2: a block to each row and to each entry, and a split to each row
abbrev pub factor_lengths : ℕ → ℕ → ℕ → ℕ → ℕ → ℕ → List Check
factor_lengths n offsets columns splits diagonal values = (1 when too_large offsets columns) ∷ (2 when wrong_factor n (offsets - 1) columns splits diagonal values) ∷ []
