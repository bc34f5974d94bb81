-- The promise of `decompose` with N as a number, on words or on bytes, and what `copy_value` with N as a number looks at before its own checks.
-- Definitions only.
use Rattle.std.specs.Prelude.{◌≡◌, List, [], ◌∷◌, ◌++◌, cond, ◌||◌, ℕ, eqb, get_or}
use Rattle.std.specs.Float.{Format}
use Rattle.answers.specs.Checks.{Check, ◌when◌, first_of}
use Rattle.answers.specs.Limits.{outside_of}
use Rattle.patterns.specs.Checks.{too_large}
use Rattle.factors.specs.Factor.{FactorPattern, FactorValues, decompose}
use Rattle.decompose.specs.Promise.{stopped_rows, decompose_checks}

-- What the call looks at first comes before the checks of `decompose_N`. The number is that of the first check that holds, and 9 has the row that stopped. After 0 and 9 what is lent is new, and else as it was.
pub record Factored {A : Type 0} (f : Format) (earlier : List Check) (n : ℕ) (t : FactorPattern) (s : FactorValues) (number row : ℕ) (new old left : A) : Type 0 where
  pub first : number ≡ first_of (earlier ++ decompose_checks f n t s)
  pub row_is : row ≡ cond (eqb number 9) (get_or (stopped_rows (decompose f n t s).stopped) 0 0) 0
  pub lent : left ≡ cond (eqb number 0 || eqb number 9) new old

-- the sizes of A's pattern and of the factor's, then N
abbrev pub copy_dim_checks : ℕ → ℕ → ℕ → ℕ → ℕ → List Check
copy_dim_checks dim starts entries offsets columns = (1 when (too_large starts entries || too_large offsets columns)) ∷ (2 when outside_of 1 3 dim) ∷ []
