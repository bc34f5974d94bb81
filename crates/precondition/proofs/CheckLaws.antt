-- The checks of the calls: which of them decides, and what holds when none refuses.
-- Assumes nothing.
use mathlib.Core.Path.{◌≡◌, refl, ap}
use mathlib.Core.List.{List, ◌++◌}
use mathlib.Core.Bool.{Bool, true, false, not, cond, ◌&&◌}
use Prim.Native.Nat.{ℕ, ◌-◌, ◌*◌}
use native.Mathlib.Omega.{arith}
use lib.ListN.{length}
use borrow.Author.Tests.{eqb-true, not-false}
use Rattle.answers.specs.Checks.{Check, first_of}
use Rattle.answers.specs.Limits.{wrong_length}
use Rattle.answers.specs.Promise.{names}
use Rattle.answers.proofs.EndLaws.{none_of_zero, left_to_later}
use Rattle.base.proofs.All.{or_left, or_right}
use Rattle.lent.specs.Steps.{Dim}
use Rattle.patterns.specs.Pattern.{rows_of, valid_pattern, valid_splits}
use Rattle.patterns.specs.Checks.{too_large}
use Rattle.factor_check.specs.Checks.{wrong_factor}
use Rattle.factor_check.specs.Fits.{FactorFits}
use Rattle.factor_check.proofs.CheckLaws as factor
use Rattle.precondition.specs.Checks.{wrong_shape, solve_lengths, solve_checks}

-- rules that are tested after the lengths decide only if no length is wrong
pub by_rules : (lengths later : List Check) → names 0 lengths ≡ false → first_of lengths ≡ 0 → first_of (lengths ++ later) ≡ first_of later
by_rules lengths later unnamed zero_is = left_to_later lengths later (none_of_zero lengths unnamed zero_is)

-- the lengths of a shape that is not wrong
module _ (n rows entries splits diagonal values vec : ℕ) (right : wrong_shape n rows entries splits diagonal values vec ≡ false) where
  pub factor_right : wrong_factor n rows entries splits diagonal values ≡ false
  factor_right = or_left (wrong_factor n rows entries splits diagonal values) (wrong_length rows n vec) right

  pub vec_is : vec ≡ n * rows
  vec_is = eqb-true _ _ (not-false _ (or_right (wrong_factor n rows entries splits diagonal values) (wrong_length rows n vec) right))

-- 1 under large, then 2 under wrong, of which neither holds
neither : (large wrong : Bool) (later : Bool) → (not large && (not wrong && later)) ≡ true → (large ≡ false) × (wrong ≡ false) × (later ≡ true)
neither true wrong later none = absurd (omega (arith, ap {B = ℕ} (λ (b : Bool). cond b 0 1) none))
neither false true later none = absurd (omega (arith, ap {B = ℕ} (λ (b : Bool). cond b 0 1) none))
neither false false later none = (refl, refl, none)

-- the lengths refuse nothing
module _ (n offsets columns splits diagonal values vec : ℕ) (zero_is : first_of (solve_lengths n offsets columns splits diagonal values vec) ≡ 0) where
  lengths_pass : (too_large offsets columns ≡ false) × (wrong_shape n (offsets - 1) columns splits diagonal values vec ≡ false) × (true ≡ true)
  lengths_pass =
      neither (too_large offsets columns) (wrong_shape n (offsets - 1) columns splits diagonal values vec) true
      (none_of_zero (solve_lengths n offsets columns splits diagonal values vec) refl zero_is)

  pub sized : too_large offsets columns ≡ false
  sized = lengths_pass.0

  pub splits_are : splits ≡ offsets - 1
  splits_are =
      factor.splits_are n (offsets - 1) columns splits diagonal values
      (factor_right n (offsets - 1) columns splits diagonal values vec lengths_pass.1)

-- nothing is refused, so that the factor and the vector fit
module _ (n : ℕ) (dim : Dim n) (o cs s : List ℕ) (diagonal values vec : ℕ) (zero_is : first_of (solve_checks n o cs s diagonal values vec) ≡ 0) where
  all_pass : (too_large (length o) (length cs) ≡ false) × (wrong_shape n (rows_of o) (length cs) (length s) diagonal values vec ≡ false)
      × ((not (not (valid_pattern o cs)) && (not (not (valid_splits o cs s)) && true)) ≡ true)
  all_pass =
      neither (too_large (length o) (length cs)) (wrong_shape n (rows_of o) (length cs) (length s) diagonal values vec)
      (not (not (valid_pattern o cs)) && (not (not (valid_splits o cs s)) && true))
      (none_of_zero (solve_checks n o cs s diagonal values vec) refl zero_is)

  pub factor_fits : (FactorFits n o cs s diagonal values) × (vec ≡ n * rows_of o)
  factor_fits =
      let shape = all_pass.1 in
      let rules = neither (not (valid_pattern o cs)) (not (valid_splits o cs s)) true all_pass.2 in (
        factor.factor_fits n dim o cs s diagonal values all_pass.0 (factor_right n (rows_of o) (length cs) (length s) diagonal values vec shape)
            (not-false _ rules.0) (not-false _ rules.1),
        vec_is n (rows_of o) (length cs) (length s) diagonal values vec shape,
      )
