-- What the plain solver answers and leaves.
-- Definitions only.
use Rattle.answers.specs.Numbers.{AnswerOf}
use Rattle.std.specs.Prelude.{List, ℕ, length, Float}
use Rattle.std.specs.Float.{Format, binary64}
use Rattle.solvers.specs.declared.Solution.{Solution}
use Rattle.solvers.specs.Method.{Matrix, Run}
use Rattle.solvers.specs.Solvers.{conjugate_gradient}
use Rattle.solvers.specs.Verdict.{plain_verdict, last_of}
use Rattle.solvers.specs.Checks.{plain_checks}
use Rattle.solvers.specs.Promise.{Lent, Solves}

-- the count is that of the history's numbers
abbrev pub solution_of : Format → Float → List Float → Solution
solution_of f tolerance history =
    record { count = length history; last = last_of f history; verdict = plain_verdict tolerance (length history) (last_of f history) }

-- the run from what is lent
abbrev pub plain_run : ℕ → ℕ → Matrix → Float → Lent → Run
plain_run n limit a tolerance old = conjugate_gradient binary64 n a tolerance limit old.r old.x old.q old.p

-- the promise of the call
abbrev pub PlainSolves : ℕ → ℕ → Matrix → Float → Lent → AnswerOf Solution → Lent → Type 0
PlainSolves n limit a tolerance old result left =
    Solves (plain_checks n limit a.offsets a.columns (length a.values) (length a.diagonal) (length old.r) (length old.x) (length old.q) (length old.p) (length old.history))
    (plain_run n limit a tolerance old) (solution_of binary64 tolerance (plain_run n limit a tolerance old).history) result old left
