-- The bytes that are lent to a solver, the words that they hold, and what a run leaves of them.
-- Definitions only.
use Rattle.std.specs.Prelude.{List, ◌++◌, ℕ, length, drop}
use Rattle.std.specs.Float.{Format}
use Rattle.solvers.specs.Method.{Matrix, matrix_of, Run}
use Rattle.solvers.specs.Promise.{Lent, lent_of}
use Rattle.wire.specs.Bytes.{values_in, bytes_of}
use Rattle.wire.specs.Words.{indexes_in}

-- the matrix that bytes hold
abbrev pub matrix_in : Format → List ℕ → List ℕ → List ℕ → List ℕ → Matrix
matrix_in f offsets columns values diagonal = matrix_of (indexes_in offsets) (indexes_in columns) (values_in f values) (values_in f diagonal)

-- the bytes of the four vectors and of the history
pub record LentBytes : Type 0 where
  pub r : List ℕ
  pub x : List ℕ
  pub q : List ℕ
  pub p : List ℕ
  pub history : List ℕ

abbrev pub bytes_lent : List ℕ → List ℕ → List ℕ → List ℕ → List ℕ → LentBytes
bytes_lent r x q p history = record { r = r; x = x; q = q; p = p; history = history }

-- the words that they hold
abbrev pub words_lent : Format → LentBytes → Lent
words_lent f b = lent_of (values_in f b.r) (values_in f b.x) (values_in f b.q) (values_in f b.p) (values_in f b.history)

-- bytes in the first places of a slice; those after them stay
unfoldable pub over_bytes : List ℕ → List ℕ → List ℕ
over_bytes bytes old = bytes ++ drop (length bytes) old

-- what a run leaves of them: the vectors' new words, and the history's numbers in its first words
abbrev pub bytes_left_by : Format → Run → List ℕ → LentBytes
bytes_left_by f t history =
    record { r = bytes_of f t.end.r; x = bytes_of f t.end.x; q = bytes_of f t.end.q; p = bytes_of f t.end.p; history = over_bytes (bytes_of f t.history) history }
