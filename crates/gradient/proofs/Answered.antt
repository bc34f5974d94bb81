-- The verdict that the plain solver answers is the one that the verdict theorem speaks of.
-- Assumes nothing.
use mathlib.Core.Path.{◌≡◌, refl}
use Prim.Native.Nat.{ℕ}
use lib.Ieee.{Float, binary64}
use Rattle.solvers.specs.Method.{Matrix}
use Rattle.solvers.specs.Promise.{Lent}
use Rattle.solvers.specs.Meaning.{Problem, plain_count, plain_answer}
use Rattle.gradient.specs.Answers.{solution_of, plain_run}

abbrev pub problem_of : ℕ → ℕ → Matrix → Float → Lent → Problem
problem_of n limit a tolerance old =
    record { format = binary64; width = n; matrix = a; tolerance = tolerance; limit = limit; r = old.r; x = old.x; q = old.q; p = old.p }

pub answered : (n limit : ℕ) (a : Matrix) (tolerance : Float) (old : Lent)
    → ((solution_of binary64 tolerance (plain_run n limit a tolerance old).history).verdict ≡ plain_answer (problem_of n limit a tolerance old))
    × ((solution_of binary64 tolerance (plain_run n limit a tolerance old).history).count ≡ plain_count (problem_of n limit a tolerance old))
unfolding plain_answer plain_count
answered n limit a tolerance old = (refl, refl)
