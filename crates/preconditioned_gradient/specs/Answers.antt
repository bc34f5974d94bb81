-- What the preconditioned solver answers and leaves.
-- Definitions only.
use Rattle.answers.specs.Numbers.{AnswerOf}
use Rattle.std.specs.Prelude.{List, ℕ, length, Float}
use Rattle.std.specs.Float.{Format, binary64}
use Rattle.solvers.specs.declared.Solution.{Solution}
use Rattle.solvers.specs.Method.{Matrix, Run}
use Rattle.solvers.specs.Solvers.{Factor, preconditioned_gradient}
use Rattle.solvers.specs.Verdict.{preconditioned_verdict, last_of}
use Rattle.solvers.specs.Checks.{preconditioned_checks}
use Rattle.solvers.specs.Promise.{Lent, Solves}

-- the count is that of the history's numbers
abbrev pub solution_of : Format → ℕ → List Float → Solution
solution_of f limit history = record { count = length history; last = last_of f history; verdict = preconditioned_verdict limit (length history) }

-- the run from what is lent
abbrev pub preconditioned_run : ℕ → ℕ → Matrix → Factor → Float → Lent → Run
preconditioned_run n limit a g tolerance old = preconditioned_gradient binary64 n a g tolerance limit old.r old.x old.q old.p

-- the promise of the call
abbrev pub PreconditionedSolves : ℕ → ℕ → Matrix → Factor → Float → Lent → AnswerOf Solution → Lent → Type 0
PreconditionedSolves n limit a g tolerance old result left =
    Solves (preconditioned_checks n limit a.offsets a.columns (length a.values) (length a.diagonal) g.pattern.offsets g.pattern.columns g.pattern.splits
    (length g.values.diagonal) (length g.values.values) (length old.r) (length old.x) (length old.q) (length old.p) (length old.history))
    (preconditioned_run n limit a g tolerance old) (solution_of binary64 limit (preconditioned_run n limit a g tolerance old).history) result old left
