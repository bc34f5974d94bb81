-- An answer of a solve as numbers, and what an entry point promises by them.
-- Definitions only.
use Rattle.std.specs.Prelude.{Ok, Err}
use Rattle.answers.specs.Numbers.{AnswerOf}
use Rattle.std.specs.Prelude.{◌≡◌, List, ℕ}
use Rattle.std.specs.Float.{Format}
use Rattle.answers.specs.Numbers.{refusal_number}
use Rattle.answers.specs.Checks.{Check, first_of}
use Rattle.answers.specs.Promise.{after}
use Rattle.blocks.specs.Block.{plus_zero}
use Rattle.solvers.specs.declared.Verdict.{Verdict}
use Rattle.solvers.specs.declared.Verdict.TheVariants.{Empty, Settled, Unsettled}
use Rattle.solvers.specs.declared.Solution.{Solution}
use Rattle.solve_outcomes.specs.declared.Solved.{Solved}

-- the number of a verdict
abbrev pub verdict_number : Verdict → ℕ
verdict_number Empty = 1
verdict_number Settled = 2
verdict_number Unsettled = 3

-- an answer as numbers: of a refusal only its own is not 0
abbrev pub solved_of : Format → AnswerOf Solution → Solved
solved_of f (Ok solution) = record { number = 0; count = solution.count; verdict = verdict_number solution.verdict; last = solution.last }
solved_of f (Err why) = record { number = refusal_number why; count = 0; verdict = 0; last = plus_zero f }

-- What an entry point of a solve promises: the number of the first check that holds; if none does the numbers of the solution, and what is lent is new; else zeros, and it is as it was.
pub record FinishedSolve {A : Type 0} (f : Format) (checks : List Check) (solution : Solution) (solved : Solved) (new old left : A) : Type 0 where
  pub first : solved.number ≡ first_of checks
  pub count_is : solved.count ≡ after checks solution.count 0
  pub verdict_is : solved.verdict ≡ after checks (verdict_number solution.verdict) 0
  pub last_is : solved.last ≡ after checks solution.last (plus_zero f)
  pub lent : left ≡ after checks new old
