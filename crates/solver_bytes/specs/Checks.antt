-- What the solvers on lent bytes refuse with 2 of their vectors before the words are read.
-- Definitions only.
use Rattle.std.specs.Prelude.{Bool, ◌||◌, ℕ}
use Rattle.pattern_bytes.specs.Checks.{broken}

-- the bytes of a vector or of the history make no whole words
abbrev pub broken_vectors : ℕ → ℕ → ℕ → ℕ → ℕ → Bool
broken_vectors r x q p history = broken 8 r || (broken 8 x || (broken 8 q || (broken 8 p || broken 8 history)))
