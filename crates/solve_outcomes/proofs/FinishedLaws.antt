-- The end of a solve, told by the numbers of its entry point.
-- Assumes nothing.
use mathlib.Core.Path.{◌≡◌, refl, ap, ◌∙◌}
use mathlib.Core.List.{List}
use mathlib.Core.Bool.{Bool, true, false, cond}
use mathlib.Core.Option.{Option, none, some}
use Prim.Native.Nat.{ℕ}
use lib.Ieee.{Float, Format}
use Rattle.std.specs.Prelude.{Ok, Err}
use Rattle.answers.specs.Numbers.{AnswerOf, number_of}
use Rattle.answers.specs.Checks.{Check, none_holds}
use Rattle.blocks.specs.Block.{plus_zero}
use Rattle.solvers.specs.declared.Solution.{Solution}
use Rattle.solvers.specs.Promise.{solve_values}
use Rattle.solve_outcomes.specs.declared.Solved.{Solved}
use Rattle.solve_outcomes.specs.Ends.{SolveEnds}
use Rattle.solve_outcomes.specs.Numbers.{verdict_number, solved_of, FinishedSolve}

-- a number of the solution, if there is one
abbrev pub value_or : {A : Type 0} → (Solution → A) → A → Option Solution → A
value_or value else (some solution) = value solution
value_or value else none = else

pub chosen : {A : Type 0} (value : Solution → A) (else : A) (solution : Solution) (b : Bool) → value_or value else (cond b (some solution) none) ≡ cond b (value solution) else
chosen value else solution true = refl
chosen value else solution false = refl

of_number : (f : Format) (result : AnswerOf Solution) → (solved_of f result).number ≡ number_of result
of_number f (Ok s) = refl
of_number f (Err why) = refl

of_count : (f : Format) (result : AnswerOf Solution) → (solved_of f result).count ≡ value_or (λ s. s.count) 0 (solve_values result)
of_count f (Ok s) = refl
of_count f (Err why) = refl

of_verdict : (f : Format) (result : AnswerOf Solution) → (solved_of f result).verdict ≡ value_or (λ s. verdict_number s.verdict) 0 (solve_values result)
of_verdict f (Ok s) = refl
of_verdict f (Err why) = refl

of_last : (f : Format) (result : AnswerOf Solution) → (solved_of f result).last ≡ value_or (λ s. s.last) (plus_zero f) (solve_values result)
of_last f (Ok s) = refl
of_last f (Err why) = refl

pub finished_solve : {A : Type 0} (f : Format) (checks : List Check) (solution : Solution) (result : AnswerOf Solution) (solved : Solved) (new old left : A)
    → SolveEnds checks solution result new old left → solved ≡ solved_of f result → FinishedSolve f checks solution solved new old left
finished_solve f checks solution result solved new old left end is =
    record {
      first = ap (λ (r : Solved). r.number) is ∙ of_number f result ∙ end.number;
      count_is = ap (λ (r : Solved). r.count) is ∙ of_count f result ∙ ap (value_or (λ s. s.count) 0) end.values ∙ chosen (λ s. s.count) 0 solution (none_holds checks);
      verdict_is = ap (λ (r : Solved). r.verdict) is ∙ of_verdict f result ∙ ap (value_or (λ s. verdict_number s.verdict) 0) end.values ∙ chosen (λ s. verdict_number s.verdict) 0 solution (none_holds checks);
      last_is = ap (λ (r : Solved). r.last) is ∙ of_last f result ∙ ap (value_or (λ s. s.last) (plus_zero f)) end.values ∙ chosen (λ s. s.last) (plus_zero f) solution (none_holds checks);
      lent = end.lent;
    }
