-- What the copy on lent bytes looks at before the words are read: the sizes of both patterns, then that all bytes make whole words.
-- Definitions only.
use Rattle.std.specs.Prelude.{List, [], ◌∷◌, Bool, ◌||◌, ℕ, ◌/◌}
use Rattle.answers.specs.Checks.{Check, ◌when◌}
use Rattle.patterns.specs.Checks.{too_large}
use Rattle.matrix_bytes.specs.Checks.{misshapen}
use Rattle.factor_bytes.specs.Checks.{misshapen_factor}

-- N is none of 1, 2, 3, or the bytes of A or of the factor make no whole words
abbrev pub misshapen_copy : ℕ → ℕ → ℕ → ℕ → ℕ → ℕ → ℕ → ℕ → ℕ → ℕ → Bool
misshapen_copy dim starts entries a-diagonal a-values offsets columns splits diagonal values =
    misshapen dim starts entries a-values a-diagonal || misshapen_factor dim offsets columns splits diagonal values

-- 1 by the whole words of either pattern, then 2 for what is wrong with the form of anything that is lent
abbrev pub copy_byte_checks : ℕ → ℕ → ℕ → ℕ → Bool → List Check
copy_byte_checks starts entries offsets columns wrong =
    (1 when (too_large (starts / 4) (entries / 4) || too_large (offsets / 4) (columns / 4))) ∷ (2 when wrong) ∷ []
