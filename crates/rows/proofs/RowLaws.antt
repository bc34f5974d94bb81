-- What patterns says of a row by tests, column by column.
-- Assumes nothing.
use mathlib.Core.Path.{◌≡◌}
use mathlib.Core.List.{List}
use mathlib.Core.Bool.{true}
use mathlib.Core.Logic.{⊎_elim}
use Prim.Native.Nat.{ℕ, zero, suc, ◌+◌, ◌-◌, ◌≤◌, ◌<◌}
use native.Mathlib.Nat.{eq-or-lt_of_le, not-suc-le-zero, le_of_suc-le-suc}
use native.Mathlib.Numerals.{add-one}
use native.Mathlib.Omega.{arith}
use lib.ListN.{length, get_or}
use borrow.Author.Tests.{ltb-true, lt-ltb, eqb-false, ne_eqb, not-true}
use Rattle.base.proofs.All.{all_at, all_of, all_more}
use Rattle.patterns.specs.Pattern.{absent_to, once, rises}

module _ (row : List ℕ) where
  pub absent_at : (x m k : ℕ) → absent_to row x m ≡ true → k < m → get_or row k 0 ≡ x → ⊥
  unfolding absent_to
  absent_at x m k h below = eqb-false _ _ (not-true _ (all_at _ k m h below))

  pub absent_of : (x m : ℕ) → ((k : ℕ) → k < m → get_or row k 0 ≡ x → ⊥) → absent_to row x m ≡ true
  unfolding absent_to
  absent_of x m apart = all_of _ m (λ k below. rw (ne_eqb _ _ (apart k below)))

  pub absent_more : (x m : ℕ) → absent_to row x m ≡ true → (get_or row m 0 ≡ x → ⊥) → absent_to row x (m + 1) ≡ true
  unfolding absent_to
  absent_more x m h apart = all_more _ m h (rw (ne_eqb _ _ apart))

  pub once_at : (j k : ℕ) → once row ≡ true → j < k → k < length row → get_or row j 0 ≡ get_or row k 0 → ⊥
  unfolding once
  once_at j k h before below = absent_at (get_or row k 0) k j (all_at _ k (length row) h below) before

  pub once_of : ((j k : ℕ) → j < k → k < length row → get_or row j 0 ≡ get_or row k 0 → ⊥) → once row ≡ true
  unfolding once
  once_of apart = all_of _ (length row) (λ k below. absent_of (get_or row k 0) k (λ j before. apart j k before below))

  rises_next : (k : ℕ) → rises row ≡ true → suc k < length row → get_or row k 0 < get_or row (suc k) 0
  unfolding rises
  rises_next k h below = rw add-one at (ltb-true (get_or row k 0) (get_or row (k + 1) 0) (all_at _ k (length row - 1) h (omega arith)))

  pub rises_at : (j k : ℕ) → rises row ≡ true → j < k → k < length row → get_or row j 0 < get_or row k 0
  rises_at j zero h before below = absurd (not-suc-le-zero before)
  rises_at j (suc k) h before below =
      ⊎_elim (λ e. rw e (rises_next k h below)) (λ less. omega (arith, rises_at j k h less (omega arith), rises_next k h below)) (eq-or-lt_of_le (le_of_suc-le-suc before))

  pub rises_level : (j k : ℕ) → rises row ≡ true → j ≤ k → k < length row → get_or row j 0 ≤ get_or row k 0
  rises_level j k h le below = ⊎_elim (λ e. rw e (omega arith)) (λ before. omega (arith, rises_at j k h before below)) (eq-or-lt_of_le le)

  pub rises_of : ((k : ℕ) → k + 1 < length row → get_or row k 0 < get_or row (k + 1) 0) → rises row ≡ true
  unfolding rises
  rises_of each = all_of _ (length row - 1) (λ k below. lt-ltb _ _ (each k (omega arith)))

  -- a row that rises has no column twice
  pub rises_once : rises row ≡ true → once row ≡ true
  rises_once h = once_of (λ j k before below e. omega (arith, rises_at j k h before below, e))
