-- What the checks of a factor leave: a wrong length or none, and a factor that fits.
-- Assumes nothing.
use mathlib.Core.Path.{◌≡◌, refl}
use mathlib.Core.List.{List, [], ◌∷◌}
use mathlib.Core.Bool.{Bool, true, false, not}
use Prim.Native.Nat.{ℕ, ◌*◌}
use native.Mathlib.Omega.{arith}
use lib.Dec.{eqb}
use lib.ListN.{length}
use borrow.Author.Tests.{eqb-true, not-false}
use Rattle.base.proofs.All.{or_left, or_right}
use Rattle.answers.specs.Checks.{◌when◌, first_of}
use Rattle.lent.specs.Steps.{Dim}
use Rattle.patterns.specs.Pattern.{rows_of, valid_pattern, valid_splits}
use Rattle.patterns.specs.Checks.{too_large}
use Rattle.patterns.proofs.SizeLaws.{rows_most, columns_most}
use Rattle.matrix.specs.Checks.{wrong_values}
use Rattle.matrix.proofs.CheckLaws.{offsets_least}
use Rattle.factor_check.specs.Checks.{wrong_factor}
use Rattle.factor_check.specs.Fits.{FactorFits}

-- the lengths of a factor that is not wrong
module _ (n rows entries splits diagonal values : ℕ) (right : wrong_factor n rows entries splits diagonal values ≡ false) where
  blocks : wrong_values n rows entries values diagonal ≡ false
  blocks = or_left (wrong_values n rows entries values diagonal) (not (eqb splits rows)) right

  pub values_are : values ≡ n * n * entries
  values_are = eqb-true _ _ (not-false _ (or_left (not (eqb values (n * n * entries))) (not (eqb diagonal (n * n * rows))) blocks))

  pub diagonal_is : diagonal ≡ n * n * rows
  diagonal_is = eqb-true _ _ (not-false _ (or_right (not (eqb values (n * n * entries))) (not (eqb diagonal (n * n * rows))) blocks))

  pub splits_are : splits ≡ rows
  splits_are = eqb-true _ _ (not-false _ (or_right (wrong_values n rows entries values diagonal) (not (eqb splits rows)) right))

-- 3 under an invalid pattern, then 11 under wrong splits: if the number is 0, neither holds
pub rows_pass : (valid right : Bool) → first_of ((3 when not valid) ∷ (11 when not right) ∷ []) ≡ 0 → (valid ≡ true) × (right ≡ true)
rows_pass false right zero_is = absurd (omega (arith, zero_is))
rows_pass true false zero_is = absurd (omega (arith, zero_is))
rows_pass true true zero_is = (refl, refl)

-- nothing is refused, so that the factor fits
pub factor_fits : (n : ℕ) → Dim n → (o cs s : List ℕ) (diagonal values : ℕ) → too_large (length o) (length cs) ≡ false
    → wrong_factor n (rows_of o) (length cs) (length s) diagonal values ≡ false → valid_pattern o cs ≡ true → valid_splits o cs s ≡ true
    → FactorFits n o cs s diagonal values
factor_fits n dim o cs s diagonal values sized shaped valid right =
    record {
      matrix =
          record {
            dim = dim;
            some = offsets_least n (length o) (length cs) dim sized;
            pattern = valid;
            of_values = values_are n (rows_of o) (length cs) (length s) diagonal values shaped;
            of_diagonal = diagonal_is n (rows_of o) (length cs) (length s) diagonal values shaped;
          };
      few = columns_most (length o) (length cs) sized;
      rows = rows_most (length o) (length cs) sized;
      of_splits = splits_are n (rows_of o) (length cs) (length s) diagonal values shaped;
      splits_right = right;
    }
