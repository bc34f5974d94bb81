-- Document 01's limits, and the checks that rest on numbers alone.
-- Definitions only.
use Rattle.std.specs.Prelude.{List, [], ◌∷◌, Bool, not, ◌||◌, ℕ, ◌*◌, ltb, eqb}
use Rattle.answers.specs.Checks.{Check, ◌when◌}

-- not from the least number to the most
abbrev pub outside_of : ℕ → ℕ → ℕ → Bool
outside_of least most x = ltb x least || ltb most x

-- rows n: 1 to 4,096
abbrev pub rows_out_of_range : ℕ → Bool
rows_out_of_range n = outside_of 1 4096 n

-- entries of any pattern: 0 to 65,535
abbrev pub entries_out_of_range : ℕ → Bool
entries_out_of_range entries = outside_of 0 65535 entries

-- nodes m of an element: 1 to 8
abbrev pub nodes_out_of_range : ℕ → Bool
nodes_out_of_range m = outside_of 1 8 m

-- iteration limit: 0 to 4,096
abbrev pub iterations_out_of_range : ℕ → Bool
iterations_out_of_range limit = outside_of 0 4096 limit

-- the largest u32 is "no place"
abbrev pub is_place : ℕ → Bool
is_place place = not (eqb place 4294967295)

-- a vector has N values to a row
abbrev pub wrong_length : ℕ → ℕ → ℕ → Bool
wrong_length n dim length = not (eqb length (dim * n))

-- the checks of a call that is given n and one vector
abbrev pub vector_checks : ℕ → ℕ → ℕ → List Check
vector_checks n dim length = (1 when rows_out_of_range n) ∷ (2 when wrong_length n dim length) ∷ []
