-- What the vector calls refuse, in checking order: 1, then 2. A call with one vector has `vectorChecks` of `answers`.
-- Definitions only.
use Rattle.std.specs.Prelude.{List, [], ◌∷◌, ◌||◌, ℕ, ◌*◌, ltb}
use Rattle.answers.specs.Checks.{Check, ◌when◌}
use Rattle.answers.specs.Limits.{rows_out_of_range, wrong_length}

-- the checks of a call that is given n and two vectors, or a vector and its flags: both have N values to a row
abbrev pub pair_checks : ℕ → ℕ → ℕ → ℕ → List Check
pair_checks n dim first second = (1 when rows_out_of_range n) ∷ (2 when (wrong_length n dim first || wrong_length n dim second)) ∷ []

-- of a call whose flags may be longer than the vector
abbrev pub long_flag_checks : ℕ → ℕ → ℕ → ℕ → List Check
long_flag_checks n dim values flags = (1 when rows_out_of_range n) ∷ (2 when (wrong_length n dim values || ltb flags (dim * n))) ∷ []
