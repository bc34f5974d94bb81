-- What a solve with N as a number promises, on words or on bytes, and what it looks at before its own checks.
-- Definitions only.
use Rattle.answers.specs.Numbers.{AnswerOf, number_of}
use Rattle.std.specs.Prelude.{◌≡◌, List, [], ◌∷◌, Bool, ℕ}
use Rattle.std.proofs.Math.Option.{none, some}
use Rattle.answers.specs.Checks.{Check, ◌when◌, first_of}
use Rattle.answers.specs.Limits.{iterations_out_of_range}
use Rattle.answers.specs.Promise.{after}
use Rattle.solvers.specs.declared.Solution.{Solution}
use Rattle.solvers.specs.Promise.{solve_values}

-- 1 if a pattern is too large, 10 by the limit, and 2 if N is none of 1, 2, 3 or, on bytes, if some make no whole words
abbrev pub early_checks : Bool → ℕ → Bool → List Check
early_checks large limit wrong = (1 when large) ∷ (10 when iterations_out_of_range limit) ∷ (2 when wrong) ∷ []

-- The number is that of the first check that holds. If none does there is a solution, and what is lent is new; else it is as it was.
pub record SolveEnds {A : Type 0} (checks : List Check) (solution : Solution) (result : AnswerOf Solution) (new old left : A) : Type 0 where
  pub number : number_of result ≡ first_of checks
  pub values : solve_values result ≡ after checks (some solution) none
  pub lent : left ≡ after checks new old
