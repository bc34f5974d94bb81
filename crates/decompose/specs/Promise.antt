-- The promise of `decompose_N`: its checks in order, and the words that it leaves after each number.
-- Definitions only.
use Rattle.answers.specs.Numbers.{Answer}
use Rattle.std.specs.Prelude.{◌≡◌, List, [], ◌∷◌, ◌++◌, Bool, true, false, cond, not, ◌||◌, ℕ, eqb, length}
use Rattle.std.proofs.Math.Option.{Option, none, some}
use Rattle.std.specs.Float.{Format}
use Rattle.answers.specs.Numbers.{number_of, values_of}
use Rattle.answers.specs.Checks.{Check, ◌when◌, first_of}
use Rattle.patterns.specs.Pattern.{rows_of, valid_pattern, valid_splits}
use Rattle.patterns.specs.Checks.{too_large}
use Rattle.factors.specs.Factor.{FactorPattern, FactorValues, decompose}
use Rattle.factor_check.specs.Checks.{wrong_factor}

-- whether a row stopped, and which, as a list
abbrev pub has_stopped : Option ℕ → Bool
has_stopped none = false
has_stopped (some row) = true

abbrev pub stopped_rows : Option ℕ → List ℕ
stopped_rows none = []
stopped_rows (some row) = row ∷ []

-- the checks before the first word is written: the lengths, the pattern, its rows and splits
abbrev pub earlier_checks : ℕ → List ℕ → List ℕ → List ℕ → ℕ → ℕ → List Check
earlier_checks n offsets columns splits diagonal values =
    (1 when too_large (length offsets) (length columns)) ∷ (2 when wrong_factor n (rows_of offsets) (length columns) (length splits) diagonal values)
    ∷ (3 when not (valid_pattern offsets columns)) ∷ (11 when not (valid_splits offsets columns splits)) ∷ []

-- all checks: at the end 9, when a row stops
abbrev pub decompose_checks : Format → ℕ → FactorPattern → FactorValues → List Check
decompose_checks f n t s =
    earlier_checks n t.offsets t.columns t.splits (length s.diagonal) (length s.values) ++ ((9 when has_stopped (decompose f n t s).stopped) ∷ [])

-- The number is that of the first check that holds, and 9 carries the row that stopped. After 0 and 9 the words are those that the run leaves, and else as they were.
pub record Decomposes (f : Format) (n : ℕ) (t : FactorPattern) (old : FactorValues) (answer : Answer) (left : FactorValues) : Type 0 where
  pub number : number_of answer ≡ first_of (decompose_checks f n t old)
  pub row : values_of answer ≡ cond (eqb (number_of answer) 9) (stopped_rows (decompose f n t old).stopped) []
  pub lent : left ≡ cond (eqb (number_of answer) 0 || eqb (number_of answer) 9) (decompose f n t old).left old
