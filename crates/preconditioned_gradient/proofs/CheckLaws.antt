-- The checks of the preconditioned solver: what holds when none refuses.
-- Assumes nothing.
use mathlib.Core.Path.{◌≡◌, refl}
use mathlib.Core.Bool.{Bool, true, false, not, ◌&&◌, ◌||◌}
use Prim.Native.Nat.{ℕ, ◌+◌, ◌-◌, ◌*◌, ◌≤◌}
use lib.Dec.{eqb, ltb}
use lib.ListN.{length}
use borrow.Author.Tests.{eqb-true, ltb-false, not-false}
use Rattle.base.proofs.All.{or_left, or_right}
use Rattle.answers.specs.Checks.{first_of, none_holds}
use Rattle.answers.specs.Limits.{iterations_out_of_range}
use Rattle.answers.proofs.EndLaws.{none_of_zero}
use Rattle.lent.specs.Steps.{Dim}
use Rattle.patterns.specs.Pattern.{rows_of, valid_pattern, valid_splits}
use Rattle.patterns.specs.Checks.{too_large}
use Rattle.matrix.specs.Checks.{wrong_values}
use Rattle.matrix.proofs.CheckLaws.{offsets_least}
use Rattle.factor_check.specs.Checks.{wrong_factor}
use Rattle.factor_check.proofs.CheckLaws as factor
use Rattle.solvers.specs.Checks.{wrong_vectors, wrong_preconditioned, preconditioned_lengths, preconditioned_rules, preconditioned_checks}
use Rattle.solvers.specs.Method.{Matrix}
use Rattle.solvers.specs.Solvers.{Factor}
use Rattle.advancing.specs.Steps.{Ready}
use Rattle.advancing.proofs.CheckLaws.{this_passes, later_pass, limit_most, r_is, x_is, q_is, p_is}
use Rattle.factor_steps.specs.Steps.{Beside}

-- what the lengths are when none is wrong
pub record Shaped (n limit starts entries a-values a-diagonal offsets columns splits diagonal values r x pr p history : ℕ) : Type 0 where
  pub sized : too_large starts entries ≡ false
  pub sized_factor : too_large offsets columns ≡ false
  pub few : limit ≤ 4096
  pub of_a : wrong_values n (starts - 1) entries a-values a-diagonal ≡ false
  pub same : offsets - 1 ≡ starts - 1
  pub of_factor : wrong_factor n (offsets - 1) columns splits diagonal values ≡ false
  pub of_vectors : wrong_vectors (starts - 1) n r x pr p ≡ false
  pub room : limit + 2 ≤ history

module _ (n limit starts entries a-values a-diagonal offsets columns splits diagonal values r x pr p history : ℕ) where
  pub shaped : (too_large starts entries || too_large offsets columns) ≡ false → iterations_out_of_range limit ≡ false
      → wrong_preconditioned n limit (starts - 1) entries a-values a-diagonal (offsets - 1) columns splits diagonal values r x pr p history ≡ false
      → Shaped n limit starts entries a-values a-diagonal offsets columns splits diagonal values r x pr p history
  shaped small few right =
      let of_a = wrong_values n (starts - 1) entries a-values a-diagonal in
      let differ = not (eqb (offsets - 1) (starts - 1)) in
      let of_factor = wrong_factor n (offsets - 1) columns splits diagonal values in
      let vectors = wrong_vectors (starts - 1) n r x pr p in
      let short = ltb history (limit + 2) in
      let after-a = or_right of_a (differ || (of_factor || (vectors || short))) right in
      let after-n = or_right differ (of_factor || (vectors || short)) after-a in
      let after-factor = or_right of_factor (vectors || short) after-n in
      record {
        sized = or_left (too_large starts entries) (too_large offsets columns) small;
        sized_factor = or_right (too_large starts entries) (too_large offsets columns) small;
        few = limit_most limit few;
        of_a = or_left of_a (differ || (of_factor || (vectors || short))) right;
        same = eqb-true _ _ (not-false _ (or_left differ (of_factor || (vectors || short)) after-a));
        of_factor = or_left of_factor (vectors || short) after-n;
        of_vectors = or_left vectors short after-factor;
        room = ltb-false history (limit + 2) (or_right vectors short after-factor);
      }

  pub lengths_pass : first_of (preconditioned_lengths n limit starts entries a-values a-diagonal offsets columns splits diagonal values r x pr p history) ≡ 0 → Shaped n limit starts entries a-values a-diagonal offsets columns splits diagonal values r x pr p history
  lengths_pass zero_is =
      let large = too_large starts entries || too_large offsets columns in
      let out = iterations_out_of_range limit in
      let wrong = wrong_preconditioned n limit (starts - 1) entries a-values a-diagonal (offsets - 1) columns splits diagonal values r x pr p history in
      let none = none_of_zero (preconditioned_lengths n limit starts entries a-values a-diagonal offsets columns splits diagonal values r x pr p history) refl zero_is in
      let later = later_pass large (not out && (not wrong && true)) none in
      shaped (this_passes large (not out && (not wrong && true)) none) (this_passes out (not wrong && true) later)
      (this_passes wrong true (later_pass out (not wrong && true) later))

-- nothing is refused, so that matrix, factor and vectors fit, and the history has room
module _ (n : ℕ) (dim : Dim n) (limit : ℕ) (a : Matrix) (g : Factor) (r x pr p history : ℕ)
    (zero_is : first_of (preconditioned_checks n limit a.offsets a.columns (length a.values) (length a.diagonal) g.pattern.offsets g.pattern.columns g.pattern.splits
    (length g.values.diagonal) (length g.values.values) r x pr p history) ≡ 0) where
  abbrev large : Bool
  large = too_large (length a.offsets) (length a.columns) || too_large (length g.pattern.offsets) (length g.pattern.columns)

  abbrev wrong : Bool
  wrong =
      wrong_preconditioned n limit (rows_of a.offsets) (length a.columns) (length a.values) (length a.diagonal) (rows_of g.pattern.offsets) (length g.pattern.columns)
      (length g.pattern.splits) (length g.values.diagonal) (length g.values.values) r x pr p history

  abbrev rules : Bool
  rules = none_holds (preconditioned_rules a.offsets a.columns g.pattern.offsets g.pattern.columns g.pattern.splits)

  none : (not large && (not (iterations_out_of_range limit) && (not wrong && rules))) ≡ true
  none =
      none_of_zero (preconditioned_checks n limit a.offsets a.columns (length a.values) (length a.diagonal) g.pattern.offsets g.pattern.columns g.pattern.splits
      (length g.values.diagonal) (length g.values.values) r x pr p history) refl zero_is

  after_size : (not (iterations_out_of_range limit) && (not wrong && rules)) ≡ true
  after_size = later_pass large (not (iterations_out_of_range limit) && (not wrong && rules)) none

  after_limit : (not wrong && rules) ≡ true
  after_limit = later_pass (iterations_out_of_range limit) (not wrong && rules) after_size

  pub shape : Shaped n limit (length a.offsets) (length a.columns) (length a.values) (length a.diagonal) (length g.pattern.offsets) (length g.pattern.columns)
      (length g.pattern.splits) (length g.values.diagonal) (length g.values.values) r x pr p history
  shape =
      shaped n limit (length a.offsets) (length a.columns) (length a.values) (length a.diagonal) (length g.pattern.offsets) (length g.pattern.columns)
      (length g.pattern.splits) (length g.values.diagonal) (length g.values.values) r x pr p history
      (this_passes large (not (iterations_out_of_range limit) && (not wrong && rules)) none) (this_passes (iterations_out_of_range limit) (not wrong && rules) after_size)
      (this_passes wrong rules after_limit)

  abbrev invalid : Bool
  invalid = not (valid_pattern a.offsets a.columns) || not (valid_pattern g.pattern.offsets g.pattern.columns)

  abbrev split : Bool
  split = not (valid_splits g.pattern.offsets g.pattern.columns g.pattern.splits)

  rules_pass : (not invalid && (not split && true)) ≡ true
  rules_pass = later_pass wrong rules after_limit

  neither : invalid ≡ false
  neither = this_passes invalid (not split && true) rules_pass

  pub ready : Ready n a r x pr p
  ready =
      let rows = rows_of a.offsets in
      let of_values = not (eqb (length a.values) (n * n * length a.columns)) in
      let of_diagonal = not (eqb (length a.diagonal) (n * n * rows)) in
      record {
        fits =
            record {
              dim = dim;
              some = offsets_least n (length a.offsets) (length a.columns) dim shape.sized;
              pattern =
                  not-false _ (or_left (not (valid_pattern a.offsets a.columns)) (not (valid_pattern g.pattern.offsets g.pattern.columns)) neither);
              of_values = eqb-true _ _ (not-false _ (or_left of_values of_diagonal shape.of_a));
              of_diagonal = eqb-true _ _ (not-false _ (or_right of_values of_diagonal shape.of_a));
            };
        of_r = r_is rows n r x pr p shape.of_vectors;
        of_x = x_is rows n r x pr p shape.of_vectors;
        of_q = q_is rows n r x pr p shape.of_vectors;
        of_p = p_is rows n r x pr p shape.of_vectors;
      }

  pub beside : Beside n a g
  beside =
      record {
        fits =
            factor.factor_fits n dim g.pattern.offsets g.pattern.columns g.pattern.splits (length g.values.diagonal) (length g.values.values) shape.sized_factor
            shape.of_factor (not-false _ (or_right (not (valid_pattern a.offsets a.columns)) (not (valid_pattern g.pattern.offsets g.pattern.columns)) neither))
            (not-false _ (this_passes split true (later_pass invalid (not split && true) rules_pass)));
        same = shape.same;
      }
