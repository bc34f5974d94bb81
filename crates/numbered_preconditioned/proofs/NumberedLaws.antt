-- The solve at 1, 2, 3 seen as one call with N as a number.
-- Assumes nothing.
use mathlib.Core.Path.{◌≡◌}
use mathlib.Core.Bool.{false, ◌||◌}
use Prim.Native.Nat.{ℕ}
use lib.ListN.{length}
use lib.Ieee.{Float, binary64}
use Rattle.solvers.specs.declared.Solution.{Solution}
use Rattle.answers.specs.Numbers.{AnswerOf}
use Rattle.answers.specs.Limits.{outside_of, iterations_out_of_range}
use Rattle.patterns.specs.Checks.{too_large}
use Rattle.solvers.specs.Method.{Matrix}
use Rattle.solvers.specs.Solvers.{Factor}
use Rattle.solvers.specs.Promise.{Lent, left_by}
use Rattle.preconditioned_gradient.specs.Answers.{solution_of, preconditioned_run, PreconditionedSolves}
use Rattle.solve_outcomes.specs.Ends.{SolveEnds}
use Rattle.solve_outcomes.proofs.EndLaws.{solve_twice, as_solved}
use Rattle.numbered_preconditioned.specs.Calls.{preconditioned_call_checks}

-- at an N in range
pub at_dim : (n : ℕ) → outside_of 1 3 n ≡ false → (limit : ℕ) (a : Matrix) (g : Factor) (tolerance : Float) (old : Lent) (result : AnswerOf Solution) (left : Lent)
    → PreconditionedSolves n limit a g tolerance old result left
    → SolveEnds {A = Lent} (preconditioned_call_checks n limit a g old) (solution_of binary64 limit (preconditioned_run n limit a g tolerance old).history) result
    (left_by (preconditioned_run n limit a g tolerance old) old.history) old left
at_dim n inside limit a g tolerance old result left end =
    let t = preconditioned_run n limit a g tolerance old in
    rw inside
    (solve_twice _ (solution_of binary64 limit t.history) result (left_by t old.history) old left
    (too_large (length a.offsets) (length a.columns) || too_large (length g.pattern.offsets) (length g.pattern.columns)) (iterations_out_of_range limit)
    (as_solved _ t (solution_of binary64 limit t.history) result old left end))
