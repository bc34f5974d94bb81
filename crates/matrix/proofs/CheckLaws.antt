-- The checks of a matrix by its lengths: each way out of them, and what holds when none refuses.
-- Assumes nothing.
use mathlib.Core.Path.{◌≡◌, refl, ◌∙◌}
use mathlib.Core.List.{[], ◌∷◌}
use mathlib.Core.Bool.{Bool, true, false, not, ◌||◌}
use Prim.Native.Nat.{ℕ, ◌-◌, ◌*◌, ◌≤◌}
use native.Mathlib.Nat.{mul-le-mul_right}
use native.Mathlib.Omega.{arith}
use lib.Dec.{eqb}
use borrow.Author.Tests.{eq-eqb, ne_eqb, eqb-true, not-false}
use Rattle.answers.specs.Checks.{◌when◌, first_of}
use Rattle.answers.specs.Limits.{wrong_length}
use Rattle.base.proofs.All.{or_left, or_right}
use Rattle.lent.specs.Steps.{Dim}
use Rattle.patterns.specs.Checks.{too_large}
use Rattle.patterns.proofs.SizeLaws.{rows_least, rows_most, columns_most}
use Rattle.matrix.specs.Checks.{wrong_values, matrix_lengths, vector_lengths}

-- the numbers stay small
module _ (n o cs : ℕ) (dim : Dim n) (fits : too_large o cs ≡ false) where
  pub block_most : n * n ≤ 9
  block_most = omega (arith, dim.most, mul-le-mul_right n dim.most)

  pub entries_most : n * n * cs ≤ 589815
  entries_most = omega (arith, mul-le-mul_right cs block_most, columns_most o cs fits)

  pub diagonal_most : n * n * (o - 1) ≤ 36864
  diagonal_most = omega (arith, mul-le-mul_right (o - 1) block_most, rows_most o cs fits)

  pub vector_most : n * (o - 1) ≤ 12288
  vector_most = omega (arith, mul-le-mul_right (o - 1) dim.most, rows_most o cs fits)

  pub offsets_least : 1 ≤ o
  offsets_least = omega (arith, rows_least o cs fits)

-- the ways out of the checks of a matrix
module _ (n o cs values diagonal : ℕ) where
  pub matrix_large : too_large o cs ≡ true → first_of (matrix_lengths n o cs values diagonal) ≡ 1
  matrix_large large = rw large

  pub matrix_entries : too_large o cs ≡ false → (values ≡ n * n * cs → ⊥) → first_of (matrix_lengths n o cs values diagonal) ≡ 2
  matrix_entries fits other = rw (fits, ne_eqb values (n * n * cs) other)

  pub matrix_diagonal : too_large o cs ≡ false → values ≡ n * n * cs → (diagonal ≡ n * n * (o - 1) → ⊥) → first_of (matrix_lengths n o cs values diagonal) ≡ 2
  matrix_diagonal fits same other = rw (fits, eq-eqb values (n * n * cs) same, ne_eqb diagonal (n * n * (o - 1)) other)

  pub matrix_fits : too_large o cs ≡ false → values ≡ n * n * cs → diagonal ≡ n * n * (o - 1) → first_of (matrix_lengths n o cs values diagonal) ≡ 0
  matrix_fits fits same alike = rw (fits, eq-eqb values (n * n * cs) same, eq-eqb diagonal (n * n * (o - 1)) alike)

-- 1 under large, then 2 under wrong: what each of them is if the number is 0
large_then : (large wrong : Bool) → first_of ((1 when large) ∷ (2 when wrong) ∷ []) ≡ 0 → (large ≡ false) × (wrong ≡ false)
large_then true wrong zero_is = absurd (omega (arith, zero_is))
large_then false true zero_is = absurd (omega (arith, zero_is))
large_then false false zero_is = (refl, refl)

-- a second condition of 2
more_refused : (large wrong other : Bool) → (first_of ((1 when large) ∷ (2 when wrong) ∷ []) ≡ 0 → ⊥)
    → first_of ((1 when large) ∷ (2 when wrong) ∷ []) ≡ first_of ((1 when large) ∷ (2 when (wrong || other)) ∷ [])
more_refused true wrong other some = refl
more_refused false true other some = refl
more_refused false false other some = absurd (some refl)

more_decides : (large wrong other : Bool) → first_of ((1 when large) ∷ (2 when wrong) ∷ []) ≡ 0
    → first_of ((1 when large) ∷ (2 when (wrong || other)) ∷ []) ≡ first_of ((2 when other) ∷ [])
more_decides large wrong other zero_is =
    let none = large_then large wrong zero_is in
    rw (none.0, none.1)

module _ (n o cs values diagonal : ℕ) (zero_is : first_of (matrix_lengths n o cs values diagonal) ≡ 0) where
  pub sized : too_large o cs ≡ false
  sized = (large_then (too_large o cs) (wrong_values n (o - 1) cs values diagonal) zero_is).0

  shaped : wrong_values n (o - 1) cs values diagonal ≡ false
  shaped = (large_then (too_large o cs) (wrong_values n (o - 1) cs values diagonal) zero_is).1

  pub entries_are : values ≡ n * n * cs
  entries_are = eqb-true _ _ (not-false _ (or_left (not (eqb values (n * n * cs))) (not (eqb diagonal (n * n * (o - 1)))) shaped))

  pub diagonal_is : diagonal ≡ n * n * (o - 1)
  diagonal_is = eqb-true _ _ (not-false _ (or_right (not (eqb values (n * n * cs))) (not (eqb diagonal (n * n * (o - 1)))) shaped))

  -- the ways out where two more slices are compared
  module _ (first second : ℕ) where
    pub first_wrong_lem : (first ≡ n * (o - 1) → ⊥) → first_of (vector_lengths n o cs values diagonal first second) ≡ 2
    first_wrong_lem other =
        more_decides (too_large o cs) (wrong_values n (o - 1) cs values diagonal) (wrong_length (o - 1) n first || wrong_length (o - 1) n second) zero_is
        ∙ rw (ne_eqb first (n * (o - 1)) other)

    pub second_wrong : first ≡ n * (o - 1) → (second ≡ n * (o - 1) → ⊥) → first_of (vector_lengths n o cs values diagonal first second) ≡ 2
    second_wrong same other =
        more_decides (too_large o cs) (wrong_values n (o - 1) cs values diagonal) (wrong_length (o - 1) n first || wrong_length (o - 1) n second) zero_is
        ∙ rw (eq-eqb first (n * (o - 1)) same, ne_eqb second (n * (o - 1)) other)

    pub both_right : first ≡ n * (o - 1) → second ≡ n * (o - 1) → first_of (vector_lengths n o cs values diagonal first second) ≡ 0
    both_right same alike =
        more_decides (too_large o cs) (wrong_values n (o - 1) cs values diagonal) (wrong_length (o - 1) n first || wrong_length (o - 1) n second) zero_is
        ∙ rw (eq-eqb first (n * (o - 1)) same, eq-eqb second (n * (o - 1)) alike)

pub matrix_refused : (n o cs values diagonal first second : ℕ) → (first_of (matrix_lengths n o cs values diagonal) ≡ 0 → ⊥)
    → first_of (matrix_lengths n o cs values diagonal) ≡ first_of (vector_lengths n o cs values diagonal first second)
matrix_refused n o cs values diagonal first second =
    more_refused (too_large o cs) (wrong_values n (o - 1) cs values diagonal) (wrong_length (o - 1) n first || wrong_length (o - 1) n second)

-- and what the two slices are when none refuses
module _ (n o cs values diagonal first second : ℕ) (zero_is : first_of (vector_lengths n o cs values diagonal first second) ≡ 0) where
  rest : (wrong_values n (o - 1) cs values diagonal || (wrong_length (o - 1) n first || wrong_length (o - 1) n second)) ≡ false
  rest = (large_then (too_large o cs) (wrong_values n (o - 1) cs values diagonal || (wrong_length (o - 1) n first || wrong_length (o - 1) n second)) zero_is).1

  pub matrix_too : first_of (matrix_lengths n o cs values diagonal) ≡ 0
  matrix_too =
      rw ((large_then (too_large o cs) (wrong_values n (o - 1) cs values diagonal || (wrong_length (o - 1) n first || wrong_length (o - 1) n second)) zero_is).0, or_left (wrong_values n (o - 1) cs values diagonal) (wrong_length (o - 1) n first || wrong_length (o - 1) n second) rest)

  lengths : (wrong_length (o - 1) n first || wrong_length (o - 1) n second) ≡ false
  lengths = or_right (wrong_values n (o - 1) cs values diagonal) (wrong_length (o - 1) n first || wrong_length (o - 1) n second) rest

  pub first_is : first ≡ n * (o - 1)
  first_is = eqb-true _ _ (not-false _ (or_left (wrong_length (o - 1) n first) (wrong_length (o - 1) n second) lengths))

  pub second_is : second ≡ n * (o - 1)
  second_is = eqb-true _ _ (not-false _ (or_right (wrong_length (o - 1) n first) (wrong_length (o - 1) n second) lengths))
