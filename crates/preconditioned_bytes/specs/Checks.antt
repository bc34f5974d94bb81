-- What the preconditioned solver on lent bytes refuses: 1 by whole words, 10, and 2 for an N or bytes that are wrong, before the checks of the words.
-- Definitions only.
use Rattle.std.specs.Prelude.{List, ◌++◌, Bool, ◌||◌, ℕ, ◌/◌, length}
use Rattle.std.specs.Float.{binary64}
use Rattle.answers.specs.Checks.{Check}
use Rattle.patterns.specs.Checks.{too_large}
use Rattle.solve_outcomes.specs.Ends.{early_checks}
use Rattle.numbered_preconditioned.specs.Calls.{own_checks}
use Rattle.matrix_bytes.specs.Checks.{misshapen}
use Rattle.factor_bytes.specs.Checks.{misshapen_factor}
use Rattle.solver_bytes.specs.Lent.{LentBytes, words_lent, matrix_in}
use Rattle.solver_bytes.specs.Checks.{broken_vectors}
use Rattle.preconditioned_room.specs.Rooms.{factor_in}

-- N is none of 1, 2, 3, or the bytes of the matrix, of the factor, of a vector or of the history make no whole words
abbrev pub misshapen_preconditioned : ℕ → ℕ → ℕ → ℕ → ℕ → ℕ → ℕ → ℕ → ℕ → ℕ → ℕ → ℕ → ℕ → ℕ → ℕ → Bool
misshapen_preconditioned dim starts entries a-values a-diagonal offsets columns splits diagonal values r x pr p history =
    misshapen dim starts entries a-values a-diagonal || (misshapen_factor dim offsets columns splits diagonal values || broken_vectors r x pr p history)

-- all checks of the call, those of the words that the bytes hold last
abbrev pub preconditioned_byte_checks : ℕ → ℕ → List ℕ → List ℕ → List ℕ → List ℕ → List ℕ → List ℕ → List ℕ → List ℕ → List ℕ → LentBytes → List Check
preconditioned_byte_checks dim limit starts entries a-values a-diagonal offsets columns splits diagonal values old =
    early_checks (too_large (length starts / 4) (length entries / 4) || too_large (length offsets / 4) (length columns / 4)) limit
    (misshapen_preconditioned dim (length starts) (length entries) (length a-values) (length a-diagonal) (length offsets) (length columns) (length splits) (length diagonal) (length values)
    (length old.r) (length old.x) (length old.q) (length old.p) (length old.history))
    ++ own_checks dim limit (matrix_in binary64 starts entries a-values a-diagonal) (factor_in binary64 offsets columns splits diagonal values) (words_lent binary64 old)
