-- A NaN in the right side: no solve answers Settled, and the preconditioned one is Unsettled at any limit.
-- Assumes nothing.
use mathlib.Core.Path.{◌≡◌}
use mathlib.Core.Logic.{inr}
use mathlib.Core.Bool.{false}
use Prim.Native.Nat.{ℕ, ◌*◌, ◌<◌}
use lib.ListN.{get_or}
use lib.Ieee.{nan, Format, lt}
use Rattle.patterns.specs.Pattern.{rows_of}
use Rattle.root.specs.Sqrt.{sqrt}
use Rattle.solvers.specs.declared.Verdict.TheVariants.{Empty, Unsettled}
use Rattle.solvers.specs.Method.{Matrix, State, ratio}
use Rattle.solvers.specs.Solvers.{Factor}
use Rattle.solvers.specs.Meaning.{Problem, first_square, first_inverse, below_epsilon, None, factor_ratio, factor_below, factor_answer, plain_ratio, plain_below, plain_answer}
use Rattle.solvers.proofs.FloatLaws.{mul_nan, div_nan, square_nan}
use Rattle.solvers.proofs.VerdictTheorem.{unsettled_exactly, plain_empty_exactly, plain_unsettled_exactly}

-- the ratio to a norm that is NaN is NaN
ratio_nan : (f : Format) (n : ℕ) (a : Matrix) (s : State) → ratio f n a nan s ≡ nan
unfolding ratio sqrt
ratio_nan f n a s = rw (mul_nan f)

-- Value j of the right side is NaN.
module _ (t : Problem) (j : ℕ) (inside : j < t.width * rows_of t.matrix.offsets) (is_nan : get_or t.r j nan ≡ nan) where
  pub nan_square : first_square t ≡ nan
  unfolding first_square
  nan_square = square_nan t.format t.width t.matrix t.r j inside is_nan

  nan_inverse : first_inverse t ≡ nan
  unfolding first_inverse
  nan_inverse = rw nan_square (div_nan t.format _)

  -- its squared norm is not below epsilon
  nan_other : below_epsilon t ≡ false
  unfolding lt
  nan_other = rw nan_square

  -- and no step's ratio is below the tolerance
  nan_none : (g : Factor) → None t.limit (factor_below g t)
  unfolding factor_ratio lt
  nan_none g k h = rw (nan_inverse, ratio_nan)

  nan_none_plain : None t.limit (plain_below t)
  unfolding plain_ratio lt
  nan_none_plain k h = rw (nan_inverse, ratio_nan)

  -- So the preconditioned solver answers Unsettled: never Empty, never Settled.
  pub nan_unsettled : (g : Factor) → factor_answer g t ≡ Unsettled
  nan_unsettled g = (unsettled_exactly g t).1 (nan_other, nan_none g)

  -- And so does the plain one, unless the limit is 0, where it takes no step and is Empty by 01's rule.
  pub nan_plain_unsettled : 0 < t.limit → plain_answer t ≡ Unsettled
  nan_plain_unsettled some = (plain_unsettled_exactly t).1 (nan_other, (some, nan_none_plain))

  pub nan_plain_empty : t.limit ≡ 0 → plain_answer t ≡ Empty
  nan_plain_empty none = (plain_empty_exactly t).1 (inr none)
