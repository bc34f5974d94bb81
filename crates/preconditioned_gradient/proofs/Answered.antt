-- The verdict that the preconditioned solver answers is the one that the verdict theorem speaks of.
-- Assumes nothing.
use mathlib.Core.Path.{◌≡◌, refl}
use Prim.Native.Nat.{ℕ}
use lib.Ieee.{Float, binary64}
use Rattle.solvers.specs.Method.{Matrix}
use Rattle.solvers.specs.Solvers.{Factor}
use Rattle.solvers.specs.Promise.{Lent}
use Rattle.solvers.specs.Meaning.{Problem, factor_count, factor_answer}
use Rattle.preconditioned_gradient.specs.Answers.{solution_of, preconditioned_run}

abbrev pub problem_of : ℕ → ℕ → Matrix → Float → Lent → Problem
problem_of n limit a tolerance old =
    record { format = binary64; width = n; matrix = a; tolerance = tolerance; limit = limit; r = old.r; x = old.x; q = old.q; p = old.p }

pub answered : (n limit : ℕ) (a : Matrix) (g : Factor) (tolerance : Float) (old : Lent)
    → ((solution_of binary64 limit (preconditioned_run n limit a g tolerance old).history).verdict ≡ factor_answer g (problem_of n limit a tolerance old))
    × ((solution_of binary64 limit (preconditioned_run n limit a g tolerance old).history).count ≡ factor_count g (problem_of n limit a tolerance old))
unfolding factor_answer factor_count
answered n limit a g tolerance old = (refl, refl)
