-- The checks of the preconditioned solver with N as a number.
-- Definitions only.
use Rattle.std.specs.Prelude.{List, ◌++◌, ◌||◌, ℕ, length}
use Rattle.answers.specs.Checks.{Check}
use Rattle.answers.specs.Limits.{outside_of}
use Rattle.patterns.specs.Checks.{too_large}
use Rattle.solvers.specs.Method.{Matrix}
use Rattle.solvers.specs.Solvers.{Factor}
use Rattle.solvers.specs.Promise.{Lent}
use Rattle.solvers.specs.Checks.{preconditioned_checks}
use Rattle.solve_outcomes.specs.Ends.{early_checks}

-- the checks of the call at N, on what is lent to it
abbrev pub own_checks : ℕ → ℕ → Matrix → Factor → Lent → List Check
own_checks n limit a g old =
    preconditioned_checks n limit a.offsets a.columns (length a.values) (length a.diagonal) g.pattern.offsets g.pattern.columns g.pattern.splits
    (length g.values.diagonal) (length g.values.values) (length old.r) (length old.x) (length old.q) (length old.p) (length old.history)

-- N comes after the sizes of both patterns and the limit, and before all else
abbrev pub preconditioned_call_checks : ℕ → ℕ → Matrix → Factor → Lent → List Check
preconditioned_call_checks dim limit a g old =
    early_checks (too_large (length a.offsets) (length a.columns) || too_large (length g.pattern.offsets) (length g.pattern.columns)) limit (outside_of 1 3 dim)
    ++ own_checks dim limit a g old
