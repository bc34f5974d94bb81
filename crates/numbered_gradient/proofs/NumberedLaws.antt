-- The solve at 1, 2, 3 seen as one call with N as a number, and at no N: its size is refused first, then its limit, then N.
-- Assumes nothing.
use mathlib.Core.Path.{◌≡◌, refl}
use mathlib.Core.List.{List, ◌∷◌, ◌++◌}
use mathlib.Core.Bool.{Bool, true, false, cond}
use Prim.Native.Nat.{ℕ}
use native.Mathlib.Omega.{arith}
use lib.ListN.{length}
use lib.Ieee.{Float, binary64}
use Rattle.std.specs.Prelude.{Err}
use Rattle.answers.specs.Numbers.{AnswerOf}
use Rattle.answers.specs.declared.Refusal.{Refusal}
use Rattle.answers.specs.Numbers.{refusal_number}
use Rattle.answers.specs.Checks.{Check, ◌when◌, first_of}
use Rattle.answers.specs.Limits.{outside_of, iterations_out_of_range}
use Rattle.solvers.specs.declared.Solution.{Solution}
use Rattle.patterns.specs.Checks.{too_large}
use Rattle.numbered.proofs.NumberedLaws.{other_dim}
use Rattle.solvers.specs.Method.{Matrix}
use Rattle.solvers.specs.Promise.{Lent, left_by}
use Rattle.solvers.specs.Checks.{wrong_plain}
use Rattle.gradient.specs.Answers.{solution_of, plain_run, PlainSolves}
use Rattle.solve_outcomes.specs.Ends.{early_checks, SolveEnds}
use Rattle.solve_outcomes.proofs.EndLaws.{solve_twice, as_solved}
use Rattle.numbered_gradient.specs.Calls.{own_checks, plain_call_checks}

refused_there : {A : Type 0} (large far outside : Bool) (later : List Check) (solution : Solution) (why : Refusal) (new old : A)
    → refusal_number why ≡ cond large 1 (cond far 10 2) → outside ≡ true
    → SolveEnds ((1 when large) ∷ (10 when far) ∷ (2 when outside) ∷ later) solution (Err why) new old old
refused_there true far outside later solution why new old number out = record { number = number; values = refl; lent = refl }
refused_there false true outside later solution why new old number out = record { number = number; values = refl; lent = refl }
refused_there false false outside later solution why new old number out = record { number = rw out number; values = rw out; lent = rw out }

pub solve_at_no_dim : {A : Type 0} (d : ℕ) → (d ≡ 1 → ⊥) → (d ≡ 2 → ⊥) → (d ≡ 3 → ⊥) → (large : Bool) (limit : ℕ) (later : List Check) (solution : Solution) (why : Refusal)
    → refusal_number why ≡ cond large 1 (cond (iterations_out_of_range limit) 10 2) → (new old : A)
    → SolveEnds (early_checks large limit (outside_of 1 3 d) ++ later) solution (Err why) new old old
solve_at_no_dim d one two three large limit later solution why number new old =
    refused_there large (iterations_out_of_range limit) (outside_of 1 3 d) later solution why new old number (other_dim d one two three)

-- at an N in range
pub at_dim : (n : ℕ) → outside_of 1 3 n ≡ false → (limit : ℕ) (a : Matrix) (tolerance : Float) (old : Lent) (result : AnswerOf Solution) (left : Lent) → PlainSolves n limit a tolerance old result left
    → SolveEnds {A = Lent} (plain_call_checks n limit a old) (solution_of binary64 tolerance (plain_run n limit a tolerance old).history) result
    (left_by (plain_run n limit a tolerance old) old.history) old left
at_dim n inside limit a tolerance old result left end =
    let t = plain_run n limit a tolerance old in
    rw inside
    (solve_twice _ (solution_of binary64 tolerance t.history) result (left_by t old.history) old left (too_large (length a.offsets) (length a.columns)) (iterations_out_of_range limit)
    (as_solved _ t (solution_of binary64 tolerance t.history) result old left end))
