-- Lists of m values that a function gives: their length, their values, and when two are equal.
-- Assumes nothing.
use mathlib.Core.Path.{◌≡◌, refl, sym, ◌∙◌}
use mathlib.Core.Logic.{⊎_elim}
use mathlib.Core.List.{List, [], ◌∷◌}
use Prim.Native.Nat.{ℕ, zero, suc, ◌<◌}
use native.Mathlib.Nat.{not-suc-le-zero, le_of_suc-le-suc, eq-or-lt_of_le}
use native.Mathlib.Omega.{arith}
use lib.ListN.{length, replicate, get_or, length-append, get_or-append}
use Rattle.std.proofs.lemmas.List.{length-replicate, get_or-replicate}
use lib.Seq.{get_or_at, ext_get_or}
use lib.Ieee.{Float, nan}
use Rattle.blocks.specs.Block.{listed}

pub length_listed : (m : ℕ) (g : ℕ → Float) → length (listed m g) ≡ m
length_listed zero g = refl
length_listed (suc m) g = omega (arith, length-append (listed m g) (g m ∷ []), length_listed m g)

-- value k of a list of m values
pub listed_at : (m : ℕ) (g : ℕ → Float) (k : ℕ) → k < m → get_or (listed m g) k nan ≡ g k
listed_at zero g k below = absurd (not-suc-le-zero below)
listed_at (suc m) g k below =
    ⊎_elim (λ e. rw e (get_or_at (listed m g) (g m) [] nan m (length_listed m g)))
    (λ l. get_or-append (listed m g) (g m ∷ []) nan k (rw (length_listed m g) l) ∙ listed_at m g k l)
    (eq-or-lt_of_le (le_of_suc-le-suc below))

-- two lists of m values are equal if their values are
pub listed_same : (m : ℕ) (g h : ℕ → Float) → ((k : ℕ) → k < m → g k ≡ h k) → listed m g ≡ listed m h
listed_same zero g h same = refl
listed_same (suc m) g h same = rw (listed_same m g h (λ k l. same k (omega arith)), same m (omega arith))

-- a list of that length with those values is that list
pub is_listed : (m : ℕ) (g : ℕ → Float) (l : List Float) → length l ≡ m → ((k : ℕ) → k < m → get_or l k nan ≡ g k) → l ≡ listed m g
is_listed m g l long same =
    ext_get_or nan l (listed m g) (long ∙ sym (length_listed m g))
    (λ k below. let inside : k < m = omega arith in same k inside ∙ sym (listed_at m g k inside))

-- one value, m times
pub replicated : (m : ℕ) (x : Float) → replicate m x ≡ listed m (λ k. x)
replicated m x = is_listed m (λ k. x) (replicate m x) (length-replicate m x) (λ k below. get_or-replicate m k x nan below)
