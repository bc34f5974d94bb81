-- The laws of `allTo`, for a loop that tests each index and returns false at the first that fails. Its invariant is `allTo p i ≡ true`.
-- Assumes nothing.
use mathlib.Core.Path.{◌≡◌, refl, sym, ap, ◌∙◌}
use mathlib.Core.Logic.{⊎_elim}
use mathlib.Core.Bool.{Bool, true, false, ◌&&◌, ◌||◌}
use Prim.Native.Nat.{ℕ, zero, suc, ◌+◌, ◌≤◌, ◌<◌}
use native.Mathlib.Nat.{not-suc-le-zero, le_of_suc-le-suc, eq-or-lt_of_le}
use native.Mathlib.Numerals.{add-one}
use native.Mathlib.Omega.{arith}
use Rattle.base.specs.All.{all_to}

-- both, and each
pub both : {a b : Bool} → a ≡ true → b ≡ true → (a && b) ≡ true
both p q = cc

pub and_left : (a b : Bool) → (a && b) ≡ true → a ≡ true
and_left true b h = refl
and_left false b h = h

pub and_right : (a b : Bool) → (a && b) ≡ true → b ≡ true
and_right true b h = h
and_right false true h = refl
and_right false false h = h

pub false_left : {a : Bool} (b : Bool) → a ≡ false → (a && b) ≡ false
false_left b p = rw p

pub false_right : (a : Bool) {b : Bool} → b ≡ false → (a && b) ≡ false
false_right true p = p
false_right false p = refl

-- neither, of a test for either
pub or_left : (a b : Bool) → (a || b) ≡ false → a ≡ false
or_left true b h = h
or_left false b h = refl

pub or_right : (a b : Bool) → (a || b) ≡ false → b ≡ false
or_right true true h = h
or_right true false h = refl
or_right false b h = h

module _ (p : ℕ → Bool) where
  pub all_none : all_to p 0 ≡ true
  unfolding all_to
  all_none = refl

  -- a turn that passes
  pub all_more : (i : ℕ) → all_to p i ≡ true → p i ≡ true → all_to p (i + 1) ≡ true
  unfolding all_to
  all_more i h q = rw add-one (both h q)

  -- a turn that fails
  pub all_stop : (i n : ℕ) → i < n → p i ≡ false → all_to p n ≡ false
  unfolding all_to
  all_stop i zero h q = absurd (not-suc-le-zero h)
  all_stop i (suc n) h q =
      ⊎_elim (λ e. false_right (all_to p n) (rw e at q)) (λ l. false_left (p n) (all_stop i n l q)) (eq-or-lt_of_le (le_of_suc-le-suc h))

  -- what it says of each
  pub all_at : (i n : ℕ) → all_to p n ≡ true → i < n → p i ≡ true
  unfolding all_to
  all_at i zero a h = absurd (not-suc-le-zero h)
  all_at i (suc n) a h =
      ⊎_elim (λ e. rw e (and_right (all_to p n) (p n) a)) (λ l. all_at i n (and_left (all_to p n) (p n) a) l) (eq-or-lt_of_le (le_of_suc-le-suc h))

  pub all_of : (n : ℕ) → ((i : ℕ) → i < n → p i ≡ true) → all_to p n ≡ true
  unfolding all_to
  all_of zero h = refl
  all_of (suc n) h = both (all_of n (λ i l. h i (omega arith))) (h n (omega arith))
