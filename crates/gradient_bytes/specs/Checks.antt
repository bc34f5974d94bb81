-- What the plain solver on lent bytes refuses: 1 by whole words, 10, and 2 for an N or bytes that are wrong, before the checks of the words.
-- Definitions only.
use Rattle.std.specs.Prelude.{List, ◌++◌, Bool, ◌||◌, ℕ, ◌/◌, length}
use Rattle.std.specs.Float.{binary64}
use Rattle.answers.specs.Checks.{Check}
use Rattle.patterns.specs.Checks.{too_large}
use Rattle.solve_outcomes.specs.Ends.{early_checks}
use Rattle.numbered_gradient.specs.Calls.{own_checks}
use Rattle.matrix_bytes.specs.Checks.{misshapen}
use Rattle.solver_bytes.specs.Lent.{LentBytes, words_lent, matrix_in}
use Rattle.solver_bytes.specs.Checks.{broken_vectors}

-- N is none of 1, 2, 3, or the bytes of the matrix, of a vector or of the history make no whole words
abbrev pub misshapen_plain : ℕ → ℕ → ℕ → ℕ → ℕ → ℕ → ℕ → ℕ → ℕ → ℕ → Bool
misshapen_plain dim offsets columns values diagonal r u ap p history = misshapen dim offsets columns values diagonal || broken_vectors r u ap p history

-- all checks of the call, those of the words that the bytes hold last
abbrev pub plain_byte_checks : ℕ → ℕ → List ℕ → List ℕ → List ℕ → List ℕ → LentBytes → List Check
plain_byte_checks dim limit offsets columns values diagonal old =
    early_checks (too_large (length offsets / 4) (length columns / 4)) limit
    (misshapen_plain dim (length offsets) (length columns) (length values) (length diagonal) (length old.r) (length old.x) (length old.q) (length old.p) (length old.history))
    ++ own_checks dim limit (matrix_in binary64 offsets columns values diagonal) (words_lent binary64 old)
