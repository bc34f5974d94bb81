-- The laws of `iterate`. A loop's invariant is `s ≡ iterate f lo i s₀`.
-- Assumes nothing.
use mathlib.Core.Path.{◌≡◌, refl, sym, ap, ◌∙◌}
use Prim.Native.Nat.{ℕ, zero, suc, ◌+◌, ◌-◌, ◌≤◌, ◌<◌}
use native.Mathlib.Omega.{arith}
use Rattle.base.specs.Iterate.{steps, iterate}

module _ {S : Type 0} (f : ℕ → S → S) where
  -- an empty range
  pub iterate_none : (lo hi : ℕ) (s : S) → hi ≤ lo → iterate f lo hi s ≡ s
  unfolding iterate steps
  iterate_none lo hi s h = ap (λ (n : ℕ). steps f lo n s) (zero_of h)
    where
      zero_of : hi ≤ lo → hi - lo ≡ 0
      zero_of h = omega arith

  -- one more step at the end
  pub iterate_more : (lo hi : ℕ) (s : S) → lo ≤ hi → iterate f lo (hi + 1) s ≡ f hi (iterate f lo hi s)
  unfolding iterate steps
  iterate_more lo hi s h =
      ap (λ (n : ℕ). steps f lo n s) longer ∙ ap (λ (k : ℕ). f k (steps f lo (hi - lo) s)) back
    where
      longer : (hi + 1) - lo ≡ suc (hi - lo)
      longer = omega arith

      back : lo + (hi - lo) ≡ hi
      back = omega arith

  join : (lo m n : ℕ) (s : S) → steps f (lo + m) n (steps f lo m s) ≡ steps f lo (m + n) s
  unfolding steps
  join lo m zero s =
      let e : m ≡ m + 0 = omega arith in
      ap (λ (k : ℕ). steps f lo k s) e
  join lo m (suc n) s =
      let e : m + suc n ≡ suc (m + n) = omega arith in
      let place : (lo + m) + n ≡ lo + (m + n) = omega arith in
      rw e (ap (f ((lo + m) + n)) (join lo m n s) ∙ ap (λ (k : ℕ). f k (steps f lo (m + n) s)) place)

  -- a range after another
  pub iterate_join : (lo mid hi : ℕ) (s : S) → lo ≤ mid → mid ≤ hi → iterate f mid hi (iterate f lo mid s) ≡ iterate f lo hi s
  unfolding iterate
  iterate_join lo mid hi s first then =
      let a : lo + (mid - lo) ≡ mid = omega arith in
      let b : (mid - lo) + (hi - mid) ≡ hi - lo = omega arith in
      rw (a, b) at (join lo (mid - lo) (hi - mid) s)

-- What holds at the start and is kept by each step holds at the end.
module _ {S : Type 0} (f : ℕ → S → S) (P : ℕ → S → Type 0) (lo : ℕ) (s : S) where
  from : (n : ℕ) → P lo s → ((i : ℕ) (t : S) → lo ≤ i → i < lo + n → P i t → P (i + 1) (f i t)) → P (lo + n) (steps f lo n s)
  unfolding steps
  from zero start step = rw (same) start
    where
      same : lo + 0 ≡ lo
      same = omega arith
  from (suc n) start step =
      let e : lo + suc n ≡ (lo + n) + 1 = omega arith in
      rw e (step (lo + n) _ (omega arith) (omega arith) (from n start (λ i t a b. step i t a (omega arith))))

  pub iterate_keeps : (hi : ℕ) → lo ≤ hi → P lo s → ((i : ℕ) (t : S) → lo ≤ i → i < hi → P i t → P (i + 1) (f i t)) → P hi (iterate f lo hi s)
  unfolding iterate
  iterate_keeps hi h start step =
      let e : lo + (hi - lo) ≡ hi = omega arith in
      rw e at (from (hi - lo) start (λ i t a b. step i t a (omega arith)))
