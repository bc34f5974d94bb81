-- The laws of `count_to`, for a loop that counts the places that pass a test. Its invariant is `count ≡ count_to p i`.
-- Assumes nothing.
use mathlib.Core.Path.{◌≡◌, refl}
use mathlib.Core.Bool.{Bool, true, false}
use Prim.Native.Nat.{ℕ, zero, suc, ◌+◌, ◌≤◌, ◌<◌}
use native.Mathlib.Numerals.{add-one}
use native.Mathlib.Nat.{not-suc-le-zero, le_of_suc-le-suc, eq-or-lt_of_le}
use mathlib.Core.Logic.{⊎_elim}
use native.Mathlib.Omega.{arith}
use Rattle.factor_check.specs.Steps.{one_if, count_to}

pub one_most : (b : Bool) → one_if b ≤ 1
one_most true = omega arith
one_most false = omega arith

module _ (p : ℕ → Bool) where
  pub count_none : count_to p 0 ≡ 0
  unfolding count_to
  count_none = refl

  -- a turn
  pub count_more : (i : ℕ) → count_to p (i + 1) ≡ count_to p i + one_if (p i)
  unfolding count_to
  count_more i = rw add-one

  pub count_most : (m : ℕ) → count_to p m ≤ m
  unfolding count_to
  count_most zero = omega arith
  count_most (suc m) = omega (arith, count_most m, one_most (p m))

  -- more places, as many or more
  pub count_up_lem : (a b : ℕ) → a ≤ b → count_to p a ≤ count_to p b
  unfolding count_to
  count_up_lem a zero h = ⊎_elim (λ e. rw e (omega arith)) (λ l. absurd (not-suc-le-zero l)) (eq-or-lt_of_le h)
  count_up_lem a (suc b) h =
      ⊎_elim (λ e. rw e (omega arith)) (λ l. omega (arith, count_up_lem a b (le_of_suc-le-suc l))) (eq-or-lt_of_le h)

  -- more, where one of them passes
  pub count_hit : (a e b : ℕ) → a ≤ e → e < b → p e ≡ true → count_to p a + 1 ≤ count_to p b
  count_hit a e b low high hit =
      let here : count_to p (e + 1) ≡ count_to p e + 1 = rw (count_more e, hit) in
      omega (arith, here, count_up_lem a e low, count_up_lem (e + 1) b (omega arith))
