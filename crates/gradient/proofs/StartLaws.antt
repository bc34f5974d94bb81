-- The plain method from its start: below epsilon, or with the steps.
-- Assumes nothing.
use mathlib.Core.Path.{◌≡◌, refl, sym, ap}
use mathlib.Core.List.{List, []}
use mathlib.Core.Bool.{true, false}
use Prim.Native.Nat.{ℕ, ◌≤◌}
use native.Mathlib.Omega.{arith}
use lib.ListN.{length}
use lib.Ieee.{Float, binary64, div, lt, of_bits}
use Rattle.patterns.specs.Pattern.{rows_of}
use Rattle.vectors.specs.Vectors.{zeroed, copied, dot_to}
use Rattle.blocks.specs.Inverse.{one}
use Rattle.solvers.specs.Method.{Matrix, state_of, dot_all, run}
use Rattle.solvers.specs.Solvers.{epsilon, left_alone, plain, conjugate_gradient}
use Rattle.advancing.specs.Steps.{Leaves}
use Rattle.advancing.proofs.StepLaws.{epsilon_is}
use Rattle.advancing.proofs.OverLaws.{over_none}
use Rattle.advancing.proofs.RunLaws.{short, run_short}

module _ (n : ℕ) (a : Matrix) (tolerance : Float) (limit : ℕ) (r u ap p words : List Float) (square : Float) (is : square ≡ dot_to binary64 n r r (rows_of a.offsets)) where
  pub starts_empty : (x : List Float) → x ≡ zeroed binary64 u → lt square (of_bits binary64 4372995238176751616) ≡ true
      → Leaves (conjugate_gradient binary64 n a tolerance limit r u ap p) words r x ap p words 0
  unfolding conjugate_gradient dot_all
  starts_empty x zero_is below =
      rw (← is, ← epsilon_is, below) (record { of_r = refl; of_x = zero_is; of_q = refl; of_p = refl; of_history = sym (over_none words); of_count = refl })

  pub starts_steps : (x w : List Float) (r' u' ap' p' h' : List Float) (count : ℕ) → x ≡ zeroed binary64 u → w ≡ copied r p → lt square (of_bits binary64 4372995238176751616) ≡ false
      → Leaves (run (plain binary64 n a tolerance (div binary64 (one binary64) square)) limit (state_of r x ap w square)) words r' u' ap' p' h' count
      → Leaves (conjugate_gradient binary64 n a tolerance limit r u ap p) words r' u' ap' p' h' count
  unfolding conjugate_gradient dot_all
  starts_steps x w r' u' ap' p' h' count zero_is copy_is above left = rw (← is, ← epsilon_is, above, ← zero_is, ← copy_is) left

-- no more ratios than steps are allowed
pub plain_short : (n : ℕ) (a : Matrix) (tolerance : Float) (limit : ℕ) (r u ap p : List Float) → length (conjugate_gradient binary64 n a tolerance limit r u ap p).history ≤ limit
unfolding conjugate_gradient
plain_short n a tolerance limit r u ap p =
    let square = dot_all binary64 n a r r in
    let m = plain binary64 n a tolerance (div binary64 (one binary64) square) in
    let z = state_of r (zeroed binary64 u) ap (copied r p) square in
    short (record { end = left_alone binary64 r u ap p square; history = []; stopped = false }) (run m limit z) limit (lt square (epsilon binary64)) (omega arith) (run_short m limit z)
