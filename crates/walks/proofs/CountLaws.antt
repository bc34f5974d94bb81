-- The laws of `count` and `largest`, and of tests that are joined or hold of every number.
-- Assumes nothing.
use mathlib.Core.Path.{◌≡◌, refl}
use mathlib.Core.Logic.{◌⊎◌, inl, inr}
use mathlib.Core.Bool.{Bool, true, false, not, ◌&&◌, ◌||◌}
use Prim.Native.Nat.{ℕ, zero, suc, ◌+◌, ◌≤◌, ◌<◌, max, zero-le}
use native.Mathlib.Nat.{add-zero, add-suc, add_assoc, eq-or-lt_of_le, max-le, le-max_left, not-suc-le-zero, le_of_suc-le-suc, suc-add, zero-add}
use native.Mathlib.Omega.{arith}
use lib.Dec.{T}
use Rattle.base.specs.All.{all_to}
use Rattle.base.proofs.All.{all_at, all_of}
use Rattle.walks.specs.Counting.{bit, count, largest}

-- `T b` and `b ≡ true` say the same
pub is_true : (b : Bool) → T b → b ≡ true
is_true true t = refl
is_true false t = absurd t

pub holds : {b : Bool} → b ≡ true → T b
holds e = rw e tt

-- both, and "if the one, the other"
pub and→ : (a b : Bool) → T (a && b) → T a × T b
and→ true b t = (tt, t)
and→ false b t = absurd t

pub →and : (a b : Bool) → T a → T b → T (a && b)
→and true b p q = q
→and false b p q = absurd p

pub imp→ : (a b : Bool) → T (not a || b) → T a → T b
imp→ true b t p = t
imp→ false b t p = absurd p

pub →imp : (a b : Bool) → (T a → T b) → T (not a || b)
→imp true b f = f tt
→imp false b f = tt

-- a bit is 0 or 1, and that of a weaker test is no less
pub bit_le : (b : Bool) → bit b ≤ 1
bit_le true = omega arith
bit_le false = omega arith

pub bit_yes : (b : Bool) → T b → bit b ≡ 1
bit_yes true t = refl
bit_yes false t = absurd t

pub bit_not : (b : Bool) → (T b → ⊥) → bit b ≡ 0
bit_not true h = absurd (h tt)
bit_not false h = refl

pub bit_mono : (b c : Bool) → (T b → T c) → bit b ≤ bit c
bit_mono true c h = omega (arith, bit_yes c (h tt))
bit_mono false c h = zero-le

-- a test of every number, at each
pub all→ : (f : ℕ → Bool) (n : ℕ) → T (all_to f n) → (z : ℕ) → z < n → T (f z)
all→ f n t z h = holds (all_at f z n (is_true (all_to f n) t) h)

pub →all : (f : ℕ → Bool) (n : ℕ) → ((z : ℕ) → z < n → T (f z)) → T (all_to f n)
→all f n h = holds (all_of f n (λ z l. is_true (f z) (h z l)))

-- the first a numbers, and the b after them
pub count_split : (a b : ℕ) (f : ℕ → Bool) → count (a + b) f ≡ count a f + count b (λ x. f (a + x))
count_split a zero f = rw (add-zero, add-zero)
count_split a (suc b) f = rw (add-suc, count_split a b f, add_assoc)

-- a weaker test counts no less, and one that never holds counts nothing
pub count_mono : (n : ℕ) (f g : ℕ → Bool) → ((x : ℕ) → x < n → T (f x) → T (g x)) → count n f ≤ count n g
count_mono zero f g h = zero-le
count_mono (suc n) f g h = omega (arith, count_mono n f g (λ x l. h x (omega arith)), bit_mono (f n) (g n) (h n (omega arith)))

pub count_none : (n : ℕ) (f : ℕ → Bool) → ((x : ℕ) → x < n → T (f x) → ⊥) → count n f ≡ 0
count_none zero f h = refl
count_none (suc n) f h = omega (arith, count_none n f (λ x l. h x (omega arith)), bit_not (f n) (h n (omega arith)))

-- the largest is at most k if all are, and each is at most the largest
pub largest_le : (n : ℕ) (f : ℕ → ℕ) (k : ℕ) → ((y : ℕ) → y < n → f y ≤ k) → largest n f ≤ k
largest_le zero f k h = zero-le
largest_le (suc n) f k h = max-le (h n (omega arith)) (largest_le n f k (λ y l. h y (omega arith)))

pub le_largest : (n : ℕ) (f : ℕ → ℕ) (y : ℕ) → y < n → f y ≤ largest n f
le_largest zero f y h = absurd (not-suc-le-zero h)
le_largest (suc n) f y h = go (le_largest n f y) (eq-or-lt_of_le (le_of_suc-le-suc h))
  where
    go : (y < n → f y ≤ largest n f) → (y ≡ n) ⊎ (y < n) → f y ≤ max (f n) (largest n f)
    go ih (inl e) = rw e (le-max_left (f n) (largest n f))
    go ih (inr l) = omega (arith, ih l)

-- number a taken out, or the first
pub count_peel : (a b : ℕ) (f : ℕ → Bool) → count (suc (a + b)) f ≡ count a f + bit (f a) + count b (λ x. f (suc (a + x)))
count_peel a b f = simp suc-add at (count_split (suc a) b f)

pub count_front : (b : ℕ) (f : ℕ → Bool) → count (suc b) f ≡ bit (f 0) + count b (λ x. f (suc x))
count_front b f = simp (zero-add) at (count_peel 0 b f)

-- a test that holds somewhere
pub count_some : (n : ℕ) (f : ℕ → Bool) (x : ℕ) → x < n → T (f x) → 1 ≤ count n f
count_some zero f x h t = absurd (not-suc-le-zero h)
count_some (suc n) f x h t = go (λ l. count_some n f x l t) (eq-or-lt_of_le (le_of_suc-le-suc h))
  where
    go : (x < n → 1 ≤ count n f) → (x ≡ n) ⊎ (x < n) → 1 ≤ count n f + bit (f n)
    go ih (inl e) = omega (arith, bit_yes (f n) (rw e at t))
    go ih (inr l) = omega (arith, ih l)
