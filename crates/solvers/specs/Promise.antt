-- What a solve answers and what it leaves: its number, its values, and the five vectors lent to it.
-- Definitions only.
use Rattle.std.specs.Prelude.{Ok, Err}
use Rattle.answers.specs.Numbers.{AnswerOf, number_of}
use Rattle.std.specs.Prelude.{◌≡◌, List, ◌++◌, ℕ, length, drop, Float}
use Rattle.std.proofs.Math.Option.{Option, none, some}
use Rattle.answers.specs.Numbers.{refusal_number}
use Rattle.answers.specs.Checks.{Check, first_of}
use Rattle.answers.specs.Promise.{after}
use Rattle.solvers.specs.declared.Solution.{Solution}
use Rattle.solvers.specs.Method.{Run}

-- its values: the solution, if there is one. No number that a solve is refused with carries any
abbrev pub solve_values : AnswerOf Solution → Option Solution
solve_values (Ok solution) = some solution
solve_values (Err why) = none

-- the vectors and the history that are lent
pub record Lent : Type 0 where
  pub r : List Float
  pub x : List Float
  pub q : List Float
  pub p : List Float
  pub history : List Float

abbrev pub lent_of : List Float → List Float → List Float → List Float → List Float → Lent
lent_of r x q p history = record { r = r; x = x; q = q; p = p; history = history }

-- numbers in the first words of a slice; "words past the count stay unchanged"
unfoldable pub over : List Float → List Float → List Float
over numbers words = numbers ++ drop (length numbers) words

-- what a run leaves of them
abbrev pub left_by : Run → List Float → Lent
left_by t history = record { r = t.end.r; x = t.end.x; q = t.end.q; p = t.end.p; history = over t.history history }

-- The number is that of the first check that holds. If none does there is a solution, and the slices are as the run leaves them; else they are as they were.
pub record Solves (checks : List Check) (t : Run) (solution : Solution) (result : AnswerOf Solution) (old left : Lent) : Type 0 where
  pub number : number_of result ≡ first_of checks
  pub values : solve_values result ≡ after checks (some solution) none
  pub lent : left ≡ after checks (left_by t old.history) old
