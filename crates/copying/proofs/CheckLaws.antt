-- The checks of the calls: which of them decides, and what holds when none refuses.
-- Assumes nothing.
use mathlib.Core.Path.{◌≡◌, refl, sym, ap, ◌∙◌}
use mathlib.Core.List.{List, [], ◌∷◌}
use mathlib.Core.Bool.{Bool, true, false, not, ◌&&◌, ◌||◌}
use Prim.Native.Nat.{ℕ, ◌-◌, ◌*◌}
use native.Mathlib.Omega.{arith}
use lib.Dec.{eqb}
use lib.ListN.{length}
use borrow.Author.Tests.{eqb-true, not-true, not-false}
use Rattle.base.proofs.All.{and_left, and_right, or_left, or_right}
use Rattle.answers.specs.Checks.{◌when◌, first_of, none_holds}
use Rattle.answers.proofs.EndLaws.{none_of_zero}
use Rattle.lent.specs.Steps.{Dim}
use Rattle.patterns.specs.Pattern.{rows_of, valid_pattern, valid_splits}
use Rattle.patterns.specs.Checks.{too_large}
use Rattle.patterns.proofs.SizeLaws.{rows_least, rows_most, columns_most}
use Rattle.matrix.specs.Checks.{wrong_values}
use Rattle.factors.specs.Copy.{all_have_places}
use Rattle.copy_check.specs.Steps.{Patterns}
use Rattle.copy_rows.specs.Steps.{CopyFits}
use Rattle.copying.specs.Checks.{wrong_shape, copy_lengths, copy_rules, copy_checks}

-- two written slices that are as they should be, as one pair
pub both_same : {A B : Type 0} {a x : A} {b y : B} → a ≡ x → b ≡ y → ◌≡◌ {A = A × B} (a, b) (x, y)
both_same p q = cc

-- a check that does not hold, and those after it
module _ (b : Bool) (later : Bool) (none : (not b && later) ≡ true) where
  pub this_passes : b ≡ false
  this_passes = not-true b (and_left (not b) later none)

  pub later_pass : later ≡ true
  later_pass = and_right (not b) later none

-- A is valid: what the factor's rows are refused by, 3 or 11, the rules are refused by
pub by_factor_lem : (of_a valid right placed : Bool) (number : ℕ) → of_a ≡ true → number ≡ first_of ((3 when not valid) ∷ (11 when not right) ∷ []) → (number ≡ 0 → ⊥)
    → number ≡ first_of ((3 when (not of_a || not valid)) ∷ (11 when not right) ∷ (8 when not placed) ∷ [])
by_factor_lem of_a false right placed number is_valid_lem is other = rw is_valid_lem is
by_factor_lem of_a true false placed number is_valid_lem is other = rw is_valid_lem is
by_factor_lem of_a true true placed number is_valid_lem is other = absurd (other is)

-- a block to each entry and to each row
module _ (n rows entries values diagonal : ℕ) (right : wrong_values n rows entries values diagonal ≡ false) where
  pub values_are : values ≡ n * n * entries
  values_are = eqb-true _ _ (not-false _ (or_left (not (eqb values (n * n * entries))) (not (eqb diagonal (n * n * rows))) right))

  pub diagonal_is : diagonal ≡ n * n * rows
  diagonal_is = eqb-true _ _ (not-false _ (or_right (not (eqb values (n * n * entries))) (not (eqb diagonal (n * n * rows))) right))

-- what the lengths are when none is wrong
pub record Shaped (n starts entries a-diagonal a-values offsets columns splits diagonal values : ℕ) : Type 0 where
  pub sized : too_large starts entries ≡ false
  pub sized_factor : too_large offsets columns ≡ false
  pub same : offsets - 1 ≡ starts - 1
  pub of_a : wrong_values n (starts - 1) entries a-values a-diagonal ≡ false
  pub of_factor : wrong_values n (offsets - 1) columns values diagonal ≡ false
  pub of_splits : splits ≡ offsets - 1

module _ (n starts entries a-diagonal a-values offsets columns splits diagonal values : ℕ) where
  pub shaped : (too_large starts entries || too_large offsets columns) ≡ false
      → wrong_shape n (starts - 1) entries a-diagonal a-values (offsets - 1) columns splits diagonal values ≡ false
      → Shaped n starts entries a-diagonal a-values offsets columns splits diagonal values
  shaped small right =
      let differ = not (eqb (offsets - 1) (starts - 1)) in
      let of_a = wrong_values n (starts - 1) entries a-values a-diagonal in
      let of_factor = wrong_values n (offsets - 1) columns values diagonal in
      let split = not (eqb splits (offsets - 1)) in
      let rest = or_right differ (of_a || (of_factor || split)) right in
      let last = or_right of_a (of_factor || split) rest in
      record {
        sized = or_left (too_large starts entries) (too_large offsets columns) small;
        sized_factor = or_right (too_large starts entries) (too_large offsets columns) small;
        same = eqb-true _ _ (not-false _ (or_left differ (of_a || (of_factor || split)) right));
        of_a = or_left of_a (of_factor || split) rest;
        of_factor = or_left of_factor split last;
        of_splits = eqb-true _ _ (not-false _ (or_right of_factor split last));
      }

  pub lengths_pass : first_of (copy_lengths n starts entries a-diagonal a-values offsets columns splits diagonal values) ≡ 0
      → Shaped n starts entries a-diagonal a-values offsets columns splits diagonal values
  lengths_pass zero_is =
      let large = too_large starts entries || too_large offsets columns in
      let wrong = wrong_shape n (starts - 1) entries a-diagonal a-values (offsets - 1) columns splits diagonal values in
      let none = none_of_zero (copy_lengths n starts entries a-diagonal a-values offsets columns splits diagonal values) refl zero_is in
      shaped (this_passes large (not wrong && true) none) (this_passes wrong true (later_pass large (not wrong && true) none))

-- what the patterns hold when no rule refuses
module _ (starts entries offsets columns splits : List ℕ) (none : none_holds (copy_rules starts entries offsets columns splits) ≡ true) where
  invalid : Bool
  invalid = not (valid_pattern starts entries) || not (valid_pattern offsets columns)

  pub both_valid : (valid_pattern starts entries ≡ true) × (valid_pattern offsets columns ≡ true)
  unfolding invalid
  both_valid =
      let neither =
      this_passes invalid (not (not (valid_splits offsets columns splits)) && (not (not (all_have_places starts entries offsets columns)) && true)) none in (
        not-false _ (or_left (not (valid_pattern starts entries)) (not (valid_pattern offsets columns)) neither),
        not-false _ (or_right (not (valid_pattern starts entries)) (not (valid_pattern offsets columns)) neither),
      )

  pub all_placed : all_have_places starts entries offsets columns ≡ true
  unfolding invalid
  all_placed =
      let split = not (valid_splits offsets columns splits) in
      let lost = not (all_have_places starts entries offsets columns) in
      not-false _ (this_passes lost true (later_pass split (not lost && true) (later_pass invalid (not split && (not lost && true)) none)))

-- so that the unchecked functions may work
pub patterns_of : (starts entries offsets columns : List ℕ) → too_large (length starts) (length entries) ≡ false → too_large (length offsets) (length columns) ≡ false
    → rows_of offsets ≡ rows_of starts → valid_pattern starts entries ≡ true → valid_pattern offsets columns ≡ true → Patterns starts entries offsets columns
patterns_of starts entries offsets columns small small-factor same valid valid_factor =
    record {
      some = omega (arith, rows_least (length starts) (length entries) small);
      most = rows_most (length starts) (length entries) small;
      few = columns_most (length starts) (length entries) small;
      few_columns = columns_most (length offsets) (length columns) small-factor;
      same = omega (arith, same, rows_least (length starts) (length entries) small, rows_least (length offsets) (length columns) small-factor);
      valid = valid;
      valid_factor = valid_factor;
    }

module _ (n : ℕ) (starts entries : List ℕ) (a-diagonal a-values : ℕ) (offsets columns splits : List ℕ) (diagonal values : ℕ) where
  pub copy_fits : Dim n → first_of (copy_checks n starts entries a-diagonal a-values offsets columns splits diagonal values) ≡ 0
      → (CopyFits n starts entries offsets columns a-values values) × (a-diagonal ≡ diagonal)
  copy_fits dim zero_is =
      let large = too_large (length starts) (length entries) || too_large (length offsets) (length columns) in
      let wrong = wrong_shape n (rows_of starts) (length entries) a-diagonal a-values (rows_of offsets) (length columns) (length splits) diagonal values in
      let rules = none_holds (copy_rules starts entries offsets columns splits) in
      let none = none_of_zero (copy_checks n starts entries a-diagonal a-values offsets columns splits diagonal values) refl zero_is in
      let later = later_pass large (not wrong && rules) none in
      let shape =
      shaped n (length starts) (length entries) a-diagonal a-values (length offsets) (length columns) (length splits) diagonal values
      (this_passes large (not wrong && rules) none) (this_passes wrong rules later) in
      let valid = both_valid starts entries offsets columns splits (later_pass wrong rules later) in (
        record {
          dim = dim;
          patterns = patterns_of starts entries offsets columns shape.sized shape.sized_factor shape.same valid.0 valid.1;
          placed = all_placed starts entries offsets columns splits (later_pass wrong rules later);
          of_a = values_are n (rows_of starts) (length entries) a-values a-diagonal shape.of_a;
          of_values = values_are n (rows_of offsets) (length columns) values diagonal shape.of_factor;
        },
        diagonal_is n (rows_of starts) (length entries) a-values a-diagonal shape.of_a ∙ ap (λ (r : ℕ). n * n * r) (sym shape.same)
            ∙ sym (diagonal_is n (rows_of offsets) (length columns) values diagonal shape.of_factor),
      )
