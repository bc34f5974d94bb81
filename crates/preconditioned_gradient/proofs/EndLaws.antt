-- The answer of the preconditioned solver, from what its run leaves.
-- Assumes nothing.
use mathlib.Core.Path.{◌≡◌, ap, ◌∙◌}
use mathlib.Core.List.{List, [], ◌∷◌}
use mathlib.Core.Bool.{Bool, true, false, cond}
use Prim.Native.Nat.{ℕ, ◌+◌, ◌≤◌}
use native.Mathlib.Omega.{arith}
use lib.ListN.{length, take, length-append}
use lib.Seq.{length-take-le}
use lib.Ieee.{Float, binary64, div, lt}
use Rattle.blocks.specs.Inverse.{one}
use Rattle.vectors.specs.Vectors.{zeroed, copied}
use Rattle.root.specs.Sqrt.{sqrt}
use Rattle.solvers.specs.declared.Solution.{Solution}
use Rattle.solvers.specs.declared.Verdict.{Verdict}
use Rattle.solvers.specs.Verdict.{preconditioned_verdict, last_of}
use Rattle.solvers.specs.Method.{Matrix, state_of, dot_all, norm, Run, run}
use Rattle.solvers.specs.Solvers.{epsilon, left_alone, Factor, preconditioned, by_factor, with_norms, preconditioned_gradient}
use Rattle.advancing.specs.Steps.{Leaves}
use Rattle.advancing.proofs.RunEnds.{numbers_are}
use Rattle.advancing.proofs.RunLaws.{short, run_short}
use Rattle.preconditioned_gradient.specs.Answers.{solution_of}

-- the answer from its parts
pub solution_made : (limit : ℕ) (words : List Float) (count : ℕ) → count ≤ length words → (last : Float) → last ≡ last_of binary64 (take count words)
    → (verdict : Verdict) → verdict ≡ preconditioned_verdict limit count → record { count = count; last = last; verdict = verdict } ≡ solution_of binary64 limit (take count words)
solution_made limit words count fits last is verdict told = rw (told, is, length-take-le count words fits)

-- the norm before all steps and the one after them add at most two
last_norm : (stopped : Bool) (norm : Float) → length (cond stopped [] (norm ∷ [])) ≤ 1
last_norm true norm = omega arith
last_norm false norm = omega arith

with_norms_short : (n : ℕ) (a : Matrix) (first : Float) (limit : ℕ) (t : Run) → length t.history ≤ limit → length (with_norms binary64 n a first t).history ≤ limit + 2
with_norms_short n a first limit t few =
    omega (arith, few, length-append t.history (cond t.stopped [] (norm binary64 n a t.end ∷ [])), last_norm t.stopped (norm binary64 n a t.end))

pub norms_short : (n : ℕ) (a : Matrix) (g : Factor) (tolerance : Float) (limit : ℕ) (r x pr p : List Float) → length (preconditioned_gradient binary64 n a g tolerance limit r x pr p).history ≤ limit + 2
unfolding preconditioned_gradient
norms_short n a g tolerance limit r x pr p =
    let square = dot_all binary64 n a r r in
    let z = preconditioned binary64 n g r pr in
    let m = by_factor binary64 n a g tolerance (div binary64 (one binary64) square) in
    let s = state_of r (zeroed binary64 x) z (copied z p) (dot_all binary64 n a r z) in
    short (record { end = left_alone binary64 r x pr p square; history = sqrt binary64 square ∷ []; stopped = false })
    (with_norms binary64 n a (sqrt binary64 square) (run m limit s)) (limit + 2) (lt square (epsilon binary64)) (omega arith)
    (with_norms_short n a (sqrt binary64 square) limit (run m limit s) (run_short m limit s))

-- the first words of the history are its numbers, and so the answer is that of the run
pub solution_is : {t : Run} {words r x q p h : List Float} {count : ℕ} → Leaves t words r x q p h count
    → (limit : ℕ) (s : Solution) → s ≡ solution_of binary64 limit (take count h) → s ≡ solution_of binary64 limit t.history
solution_is left limit s is = is ∙ ap (solution_of binary64 limit) (numbers_are left)
