-- Numbers below m that differ are all numbers below m.
-- Assumes nothing.
use mathlib.Core.Path.{◌≡◌, refl, sym, ◌∙◌}
use mathlib.Core.Logic.{⊎_elim}
use mathlib.Core.Bool.{Bool, true, false, cond}
use Prim.Native.Nat.{ℕ, zero, suc, ◌<◌}
use native.Mathlib.Nat.{not-suc-le-zero, le_of_suc-le-suc, eq-or-lt_of_le}
use native.Mathlib.Omega.{arith}
use lib.Dec.{eqb}
use borrow.Author.Tests.{eqb-true, eqb-false, eq-eqb, ne_eqb}

abbrev Into : ℕ → (ℕ → ℕ) → Type 0
Into m f = (i : ℕ) → i < m → f i < m

abbrev Apart : ℕ → (ℕ → ℕ) → Type 0
Apart m f = (i j : ℕ) → i < j → j < m → f i ≡ f j → ⊥

abbrev pub Reach : ℕ → (ℕ → ℕ) → ℕ → Type 0
Reach m f q = (k : ℕ) × (k < m) × (f k ≡ q)

-- Of m + 1 numbers the first m, with the last in the place of m itself.
module _ (m : ℕ) (f : ℕ → ℕ) (into : Into (suc m) f) (apart : Apart (suc m) f) where
  less : ℕ → ℕ
  less k = cond (eqb (f k) m) (f m) (f k)

  -- a number's two cases
  at_m : (k : ℕ) → f k ≡ m → less k ≡ f m
  unfolding less
  at_m k e = rw (eq-eqb (f k) m e)

  below_m : (k : ℕ) → (f k ≡ m → ⊥) → less k ≡ f k
  unfolding less
  below_m k other = rw (ne_eqb (f k) m other)

  by_cases : {A : Type 0} (k : ℕ) → (f k ≡ m → A) → ((f k ≡ m → ⊥) → A) → A
  by_cases {A = A} k here there = go (eqb (f k) m) refl
    where
      go : (b : Bool) → eqb (f k) m ≡ b → A
      go true is = here (eqb-true (f k) m is)
      go false is = there (eqb-false (f k) m is)

  lower : (k : ℕ) → k < suc m → (f k ≡ m → ⊥) → f k < m
  lower k h other = ⊎_elim (λ e. absurd (other e)) (λ l. l) (eq-or-lt_of_le (le_of_suc-le-suc (into k h)))

  less_into : Into m less
  less_into i h =
      by_cases i
      (λ e. rw (at_m i e) (lower m (omega arith) (λ is. apart i m h (omega arith) (e ∙ sym is))))
      (λ other. rw (below_m i other) (lower i (omega arith) other))

  less_apart : Apart m less
  less_apart i j l h same =
      by_cases i
      (λ e. by_cases j (λ e'. apart i j l (omega arith) (e ∙ sym e')) (λ other'. apart j m h (omega arith) (sym (below_m j other') ∙ sym same ∙ at_m i e)))
      (λ other.
      by_cases j (λ e'. apart i m (omega arith) (omega arith) (sym (below_m i other) ∙ same ∙ at_m j e'))
      (λ other'. apart i j l (omega arith) (sym (below_m i other) ∙ same ∙ below_m j other')))

  -- what the first m reach, with the last one, all reach
  more : ((q : ℕ) → q < m → Reach m less q) → (q : ℕ) → q < suc m → Reach (suc m) f q
  more old q h = go (eqb (f m) q) refl
    where
      go : (b : Bool) → eqb (f m) q ≡ b → Reach (suc m) f q
      go true is = (m, omega arith, eqb-true (f m) q is)
      go false is =
          let other = eqb-false (f m) q is in
          by_cases m (λ e. let k = old q (⊎_elim (λ s. absurd (other (e ∙ sym s))) (λ l. l) (eq-or-lt_of_le (le_of_suc-le-suc h))) in
          by_cases k.0 (λ e'. absurd (apart k.0 m k.1 (omega arith) (e' ∙ sym e))) (λ o. (k.0, omega (arith, k.1), sym (below_m k.0 o) ∙ k.2)))
          (λ high.
          let low = lower m (omega arith) high in
          ⊎_elim
          (λ s. let k = old (f m) low in
          by_cases k.0 (λ e'. (k.0, omega (arith, k.1), e' ∙ sym s)) (λ o. absurd (apart k.0 m k.1 (omega arith) (sym (below_m k.0 o) ∙ k.2))))
          (λ l. let k = old q l in
          by_cases k.0 (λ e'. absurd (other (sym (at_m k.0 e') ∙ k.2))) (λ o. (k.0, omega (arith, k.1), sym (below_m k.0 o) ∙ k.2)))
          (eq-or-lt_of_le (le_of_suc-le-suc h)))

pub onto : (m : ℕ) (f : ℕ → ℕ) → Into m f → Apart m f → (q : ℕ) → q < m → Reach m f q
onto zero f into apart q h = absurd (not-suc-le-zero h)
onto (suc m) f into apart q h = more m f into apart (onto m (less m f into apart) (less_into m f into apart) (less_apart m f into apart)) q h
