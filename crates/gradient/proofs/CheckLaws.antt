-- The checks of the plain solver: what holds when none refuses.
-- Assumes nothing.
use mathlib.Core.Path.{◌≡◌, refl}
use mathlib.Core.Bool.{Bool, true, false, not, ◌&&◌, ◌||◌}
use Prim.Native.Nat.{ℕ, ◌-◌, ◌*◌, ◌≤◌}
use lib.Dec.{eqb, ltb}
use lib.ListN.{length}
use borrow.Author.Tests.{eqb-true, ltb-false, not-false}
use Rattle.base.proofs.All.{or_left, or_right}
use Rattle.answers.specs.Checks.{first_of}
use Rattle.answers.specs.Limits.{iterations_out_of_range}
use Rattle.answers.proofs.EndLaws.{none_of_zero}
use Rattle.lent.specs.Steps.{Dim}
use Rattle.patterns.specs.Pattern.{rows_of, valid_pattern}
use Rattle.patterns.specs.Checks.{too_large}
use Rattle.matrix.specs.Checks.{wrong_values}
use Rattle.matrix.proofs.CheckLaws.{offsets_least}
use Rattle.solvers.specs.Checks.{wrong_vectors, wrong_plain, plain_lengths, plain_checks}
use Rattle.solvers.specs.Method.{Matrix}
use Rattle.advancing.specs.Steps.{Ready}
use Rattle.advancing.proofs.CheckLaws.{this_passes, later_pass, limit_most, r_is, x_is, q_is, p_is}

-- the lengths refuse nothing, so that check 1 does not
pub sized : (n limit offsets columns values diagonal r u ap p history : ℕ) → first_of (plain_lengths n limit offsets columns values diagonal r u ap p history) ≡ 0
    → too_large offsets columns ≡ false
sized n limit offsets columns values diagonal r u ap p history zero_is =
    this_passes (too_large offsets columns)
    (not (iterations_out_of_range limit) && (not (wrong_plain n limit (offsets - 1) columns values diagonal r u ap p history) && true))
    (none_of_zero (plain_lengths n limit offsets columns values diagonal r u ap p history) refl zero_is)

-- nothing is refused, so that the matrix and the vectors fit, and the history has room
module _ (n : ℕ) (dim : Dim n) (limit : ℕ) (a : Matrix) (r u ap p history : ℕ)
    (zero_is : first_of (plain_checks n limit a.offsets a.columns (length a.values) (length a.diagonal) r u ap p history) ≡ 0) where
  abbrev large : Bool
  large = too_large (length a.offsets) (length a.columns)

  abbrev blocks : Bool
  blocks = wrong_values n (rows_of a.offsets) (length a.columns) (length a.values) (length a.diagonal)

  abbrev vectors : Bool
  vectors = wrong_vectors (rows_of a.offsets) n r u ap p

  abbrev invalid : Bool
  invalid = not (valid_pattern a.offsets a.columns)

  none : (not large && (not (iterations_out_of_range limit) && (not (blocks || (vectors || ltb history limit)) && (not invalid && true)))) ≡ true
  none = none_of_zero (plain_checks n limit a.offsets a.columns (length a.values) (length a.diagonal) r u ap p history) refl zero_is

  after_size : (not (iterations_out_of_range limit) && (not (blocks || (vectors || ltb history limit)) && (not invalid && true))) ≡ true
  after_size = later_pass large (not (iterations_out_of_range limit) && (not (blocks || (vectors || ltb history limit)) && (not invalid && true))) none

  after_limit : (not (blocks || (vectors || ltb history limit)) && (not invalid && true)) ≡ true
  after_limit = later_pass (iterations_out_of_range limit) (not (blocks || (vectors || ltb history limit)) && (not invalid && true)) after_size

  shaped : (blocks || (vectors || ltb history limit)) ≡ false
  shaped = this_passes (blocks || (vectors || ltb history limit)) (not invalid && true) after_limit

  after_blocks : (vectors || ltb history limit) ≡ false
  after_blocks = or_right blocks (vectors || ltb history limit) shaped

  right_vectors : vectors ≡ false
  right_vectors = or_left vectors (ltb history limit) after_blocks

  pub few_steps : limit ≤ 4096
  few_steps = limit_most limit (this_passes (iterations_out_of_range limit) (not (blocks || (vectors || ltb history limit)) && (not invalid && true)) after_size)

  pub has_room : limit ≤ history
  has_room = ltb-false history limit (or_right vectors (ltb history limit) after_blocks)

  right_blocks : blocks ≡ false
  right_blocks = or_left blocks (vectors || ltb history limit) shaped

  pub plain_fits : Ready n a r u ap p
  plain_fits =
      let entries = length a.columns in
      let rows = rows_of a.offsets in
      let of_values = not (eqb (length a.values) (n * n * entries)) in
      let of_diagonal = not (eqb (length a.diagonal) (n * n * rows)) in
      record {
        fits =
            record {
              dim = dim;
              some =
                  offsets_least n (length a.offsets) entries dim
                  (this_passes large (not (iterations_out_of_range limit) && (not (blocks || (vectors || ltb history limit)) && (not invalid && true))) none);
              pattern =
                  not-false _ (this_passes invalid true (later_pass (blocks || (vectors || ltb history limit)) (not invalid && true) after_limit));
              of_values = eqb-true _ _ (not-false _ (or_left of_values of_diagonal right_blocks));
              of_diagonal = eqb-true _ _ (not-false _ (or_right of_values of_diagonal right_blocks));
            };
        of_r = r_is rows n r u ap p right_vectors;
        of_x = x_is rows n r u ap p right_vectors;
        of_q = q_is rows n r u ap p right_vectors;
        of_p = p_is rows n r u ap p right_vectors;
      }
