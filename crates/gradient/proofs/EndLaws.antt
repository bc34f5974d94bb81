-- The answer of the plain solver, from what its run leaves.
-- Assumes nothing.
use mathlib.Core.Path.{◌≡◌, ap, ◌∙◌}
use mathlib.Core.List.{List}
use Prim.Native.Nat.{ℕ, ◌≤◌}
use lib.ListN.{length, take}
use lib.Seq.{length-take-le}
use lib.Ieee.{Float, binary64}
use Rattle.solvers.specs.declared.Solution.{Solution}
use Rattle.solvers.specs.declared.Verdict.{Verdict}
use Rattle.solvers.specs.Verdict.{plain_verdict, last_of}
use Rattle.solvers.specs.Method.{Run}
use Rattle.advancing.specs.Steps.{Leaves}
use Rattle.advancing.proofs.RunEnds.{numbers_are}
use Rattle.gradient.specs.Answers.{solution_of}

-- the answer from its parts
pub solution_made : (tolerance : Float) (words : List Float) (count : ℕ) → count ≤ length words → (last : Float) → last ≡ last_of binary64 (take count words)
    → (verdict : Verdict) → verdict ≡ plain_verdict tolerance count last → record { count = count; last = last; verdict = verdict } ≡ solution_of binary64 tolerance (take count words)
solution_made tolerance words count fits last is verdict told = rw (told, is, length-take-le count words fits)

-- and so the answer is that of the run
pub solution_is : {t : Run} {words r x q p h : List Float} {count : ℕ} → Leaves t words r x q p h count
    → (tolerance : Float) (s : Solution) → s ≡ solution_of binary64 tolerance (take count h) → s ≡ solution_of binary64 tolerance t.history
solution_is left tolerance s is = is ∙ ap (solution_of binary64 tolerance) (numbers_are left)
