-- The preconditioned method from its start: below epsilon, or with the steps.
-- Assumes nothing.
use mathlib.Core.Path.{◌≡◌, refl, sym, ap, ◌∙◌}
use mathlib.Core.List.{List, []}
use mathlib.Core.Bool.{true, false}
use Prim.Native.Nat.{ℕ, ◌≤◌}
use native.Mathlib.Omega.{arith}
use lib.ListN.{length, set}
use lib.Ieee.{Float, binary64, div, lt, of_bits}
use Rattle.blocks.specs.Inverse.{one}
use Rattle.patterns.specs.Pattern.{rows_of}
use Rattle.vectors.specs.Vectors.{zeroed, copied, dot_to}
use Rattle.root.specs.Sqrt.{sqrt}
use Rattle.solvers.specs.Method.{Matrix, state_of, dot_all, run}
use Rattle.solvers.specs.Solvers.{Factor, by_factor, with_norms, preconditioned_gradient}
use Rattle.advancing.specs.Steps.{Leaves}
use Rattle.advancing.proofs.StepLaws.{epsilon_is}
use Rattle.advancing.proofs.OverLaws.{over_none, set_over}
use Rattle.factor_steps.specs.Steps.{Beside, Preconditions}

module _ (n : ℕ) (a : Matrix) (g : Factor) (tolerance : Float) (limit : ℕ) (r x pr p words : List Float) (square norm : Float)
    (is : square ≡ dot_to binary64 n r r (rows_of a.offsets)) (root : norm ≡ sqrt binary64 square) where
  pub starts_empty : (x' : List Float) → 1 ≤ length words → x' ≡ zeroed binary64 x → lt square (of_bits binary64 4372995238176751616) ≡ true
      → Leaves (preconditioned_gradient binary64 n a g tolerance limit r x pr p) words r x' pr p (set words 0 norm) 1
  unfolding preconditioned_gradient dot_all
  starts_empty x' some zero_is below =
      rw (← is, ← epsilon_is, below, ← root) (record {
        of_r = refl;
        of_x = zero_is;
        of_q = refl;
        of_p = refl;
        of_history = ap (λ (l : List Float). set l 0 norm) (sym (over_none words)) ∙ set_over [] words norm (omega (arith, some));
        of_count = refl;
      })

  pub starts_steps : (x' z w r' u' q' p' h' : List Float) (rho : Float) (count : ℕ) → Beside n a g → x' ≡ zeroed binary64 x → Preconditions binary64 n g r pr z rho → w ≡ copied z p
      → lt square (of_bits binary64 4372995238176751616) ≡ false
      → Leaves (with_norms binary64 n a norm (run (by_factor binary64 n a g tolerance (div binary64 (one binary64) square)) limit (state_of r x' z w rho))) words r' u' q' p' h' count
      → Leaves (preconditioned_gradient binary64 n a g tolerance limit r x pr p) words r' u' q' p' h' count
  unfolding preconditioned_gradient dot_all
  starts_steps x' z w r' u' q' p' h' rho count beside zero_is prepared copy_is above left =
      let rho_is : rho ≡ dot_to binary64 n r z (rows_of a.offsets) = rw beside.same at prepared.of_rho in
      rw (← is, ← epsilon_is, above, ← root, ← zero_is, ← prepared.of_z, ← rho_is, ← copy_is) left
