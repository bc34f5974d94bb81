-- What the checks of lengths leave, as far as both solvers share it.
-- Assumes nothing.
use mathlib.Core.Path.{◌≡◌, refl, ap, ◌∙◌}
use mathlib.Core.Bool.{Bool, true, false, not, ◌&&◌, ◌||◌}
use Prim.Native.Nat.{ℕ, ◌*◌, ◌≤◌}
use lib.Dec.{ltb}
use borrow.Author.Tests.{eq-eqb, eqb-true, ltb-false, not-true, not-false}
use Rattle.base.proofs.All.{and_left, and_right, or_left, or_right}
use Rattle.answers.specs.Limits.{iterations_out_of_range, wrong_length}
use Rattle.matrix.specs.Checks.{wrong_values}
use Rattle.factor_check.specs.Checks.{wrong_factor}
use Rattle.solvers.specs.Checks.{wrong_vectors}

-- a check that does not hold, and those after it
module _ (b later : Bool) (none : (not b && later) ≡ true) where
  pub this_passes : b ≡ false
  this_passes = not-true b (and_left (not b) later none)

  pub later_pass : later ≡ true
  later_pass = and_right (not b) later none

or_false : (b : Bool) → (b || false) ≡ b
or_false true = refl
or_false false = refl

-- a factor that has a split to each row is asked what a matrix is
pub as_factor : (n rows entries diagonal values : ℕ) → wrong_factor n rows entries rows diagonal values ≡ wrong_values n rows entries values diagonal
as_factor n rows entries diagonal values =
    ap (λ (b : Bool). wrong_values n rows entries values diagonal || not b) (eq-eqb rows rows refl) ∙ or_false (wrong_values n rows entries values diagonal)

pub limit_most : (limit : ℕ) → iterations_out_of_range limit ≡ false → limit ≤ 4096
limit_most limit right = ltb-false 4096 limit (or_right (ltb limit 0) (ltb 4096 limit) right)

-- the four lengths
module _ (rows n r x q p : ℕ) (right : wrong_vectors rows n r x q p ≡ false) where
  after_r : (wrong_length rows n x || (wrong_length rows n q || wrong_length rows n p)) ≡ false
  after_r = or_right (wrong_length rows n r) (wrong_length rows n x || (wrong_length rows n q || wrong_length rows n p)) right

  after_x : (wrong_length rows n q || wrong_length rows n p) ≡ false
  after_x = or_right (wrong_length rows n x) (wrong_length rows n q || wrong_length rows n p) after_r

  pub r_is : r ≡ n * rows
  r_is = eqb-true _ _ (not-false _ (or_left (wrong_length rows n r) (wrong_length rows n x || (wrong_length rows n q || wrong_length rows n p)) right))

  pub x_is : x ≡ n * rows
  x_is = eqb-true _ _ (not-false _ (or_left (wrong_length rows n x) (wrong_length rows n q || wrong_length rows n p) after_r))

  pub q_is : q ≡ n * rows
  q_is = eqb-true _ _ (not-false _ (or_left (wrong_length rows n q) (wrong_length rows n p) after_x))

  pub p_is : p ≡ n * rows
  p_is = eqb-true _ _ (not-false _ (or_right (wrong_length rows n q) (wrong_length rows n p) after_x))
