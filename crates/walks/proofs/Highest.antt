-- The first and the last of the highest places.
-- Assumes nothing.
use mathlib.Core.Path.{◌≡◌}
use mathlib.Core.Logic.{◌⊎◌, inl, inr}
use Prim.Native.Nat.{ℕ, zero, suc, ◌≤◌, ◌<◌}
use native.Mathlib.Nat.{not-suc-le-zero, eq-or-lt_of_le, le_of_suc-le-suc, lt_of_not-le}
use native.Mathlib.Decide.{dec_le}
use native.Mathlib.Omega.{arith}

pub le_or_lt : (a b : ℕ) → (a ≤ b) ⊎ (b < a)
le_or_lt a b = go (dec_le a b)
  where
    go : Dec (a ≤ b) → (a ≤ b) ⊎ (b < a)
    go (yes h) = inl h
    go (no h) = inr (lt_of_not-le h)

-- f is the first, or g the last, of the highest places up to n
pub record First (r : ℕ → ℕ) (n f : ℕ) : Type 0 where
  pub in_range : f ≤ n
  pub high : (s : ℕ) → s ≤ n → r s ≤ r f
  pub before : (s : ℕ) → s < f → r s < r f

pub record Last (r : ℕ → ℕ) (n g : ℕ) : Type 0 where
  pub in_range : g ≤ n
  pub high : (s : ℕ) → s ≤ n → r s ≤ r g
  pub after : (s : ℕ) → g < s → s ≤ n → r s < r g

-- what holds up to n, and at n + 1
step : {P : ℕ → Type 0} (n : ℕ) → ((s : ℕ) → s ≤ n → P s) → P (suc n) → (s : ℕ) → s ≤ suc n → P s
step {P} n h p s l = go (eq-or-lt_of_le l)
  where
    go : (s ≡ suc n) ⊎ (s < suc n) → P s
    go (inl e) = rw e p
    go (inr q) = h s (le_of_suc-le-suc q)

pub first_highest : (r : ℕ → ℕ) (n : ℕ) → (f : ℕ) × First r n f
first_highest r zero = (
  0,
  record {
    in_range = omega arith;
    high = λ s l. let e : s ≡ 0 = omega arith in rw e (omega arith);
    before = λ s l. absurd (not-suc-le-zero l);
  },
)
first_highest r (suc n) = go (first_highest r n)
  where
    go : (f : ℕ) × First r n f → (f : ℕ) × First r (suc n) f
    go w = on (le_or_lt (r (suc n)) (r w.0))
      where
        on : (r (suc n) ≤ r w.0) ⊎ (r w.0 < r (suc n)) → (f : ℕ) × First r (suc n) f
        on (inl h) = (
          w.0,
          record {
            in_range = omega (arith, w.1.in_range);
            high = step {P = λ s. r s ≤ r w.0} n w.1.high h;
            before = w.1.before;
          },
        )
        on (inr h) = (
          suc n,
          record {
            in_range = omega arith;
            high = step {P = λ s. r s ≤ r (suc n)} n (λ s l. omega (arith, w.1.high s l)) (omega arith);
            before = λ s l. omega (arith, w.1.high s (omega arith));
          },
        )

pub last_highest : (r : ℕ → ℕ) (n : ℕ) → (g : ℕ) × Last r n g
last_highest r zero = (
  0,
  record {
    in_range = omega arith;
    high = λ s l. let e : s ≡ 0 = omega arith in rw e (omega arith);
    after = λ s l m. absurd (omega arith);
  },
)
last_highest r (suc n) = go (last_highest r n)
  where
    go : (g : ℕ) × Last r n g → (g : ℕ) × Last r (suc n) g
    go w = on (le_or_lt (r w.0) (r (suc n)))
      where
        on : (r w.0 ≤ r (suc n)) ⊎ (r (suc n) < r w.0) → (g : ℕ) × Last r (suc n) g
        on (inl h) = (
          suc n,
          record {
            in_range = omega arith;
            high = step {P = λ s. r s ≤ r (suc n)} n (λ s l. omega (arith, w.1.high s l)) (omega arith);
            after = λ s l m. absurd (omega arith);
          },
        )
        on (inr h) = (
          w.0,
          record {
            in_range = omega (arith, w.1.in_range);
            high = step {P = λ s. r s ≤ r w.0} n w.1.high (omega arith);
            after = λ s l m. step {P = λ s. w.0 < s → r s < r w.0} n (λ s m l. w.1.after s l m) (λ l. h) s m l;
          },
        )
