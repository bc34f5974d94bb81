-- Tests of every index: a loop that keeps a flag, and two tests made at once.
-- Assumes nothing.
use mathlib.Core.Path.{◌≡◌, refl, sym, ap, ◌∙◌}
use mathlib.Core.Bool.{Bool, true, false, ◌&&◌}
use Prim.Native.Nat.{ℕ, zero, suc, ◌+◌, ◌-◌, ◌≤◌}
use native.Mathlib.Numerals.{add-one}
use native.Mathlib.Omega.{arith}
use Rattle.base.specs.All.{all_to}

pub and_true : (b : Bool) → (b && true) ≡ b
and_true true = refl
and_true false = refl

pub assoc : (a b c : Bool) → ((a && b) && c) ≡ (a && (b && c))
assoc true b c = refl
assoc false b c = refl

-- A turn of a loop that keeps a flag and has no way out in the middle. Its invariant is `flag ≡ all_to p i`.
pub flag_on : (p : ℕ → Bool) (i : ℕ) (flag : Bool) → flag ≡ all_to p i → (flag && p i) ≡ all_to p (i + 1)
unfolding all_to
flag_on p i flag known = rw (add-one, known)

exchanged : (a b c d : Bool) → ((a && b) && (c && d)) ≡ ((a && c) && (b && d))
exchanged true true c d = refl
exchanged true false true d = refl
exchanged true false false d = refl
exchanged false b c d = refl

-- two tests of all indexes are one test of both
pub all_both : (p q : ℕ → Bool) (n : ℕ) → (all_to p n && all_to q n) ≡ all_to (λ i. p i && q i) n
unfolding all_to
all_both p q zero = refl
all_both p q (suc n) = exchanged (all_to p n) (p n) (all_to q n) (q n) ∙ ap (λ (b : Bool). b && (p n && q n)) (all_both p q n)

pub all_same : (p q : ℕ → Bool) (n : ℕ) → ((i : ℕ) → p i ≡ q i) → all_to p n ≡ all_to q n
unfolding all_to
all_same p q zero same = refl
all_same p q (suc n) same = rw (all_same p q n same, same n)

-- the first index apart
pub all_shift : (p : ℕ → Bool) (n : ℕ) → all_to p (suc n) ≡ (p 0 && all_to (λ i. p (suc i)) n)
unfolding all_to
all_shift p zero = sym (and_true (p 0))
all_shift p (suc n) = ap (λ (b : Bool). b && p (suc n)) (all_shift p n) ∙ assoc (p 0) (all_to (λ i. p (suc i)) n) (p (suc n))

further : (p : ℕ → Bool) (m d : ℕ) → all_to p m ≡ false → all_to p (m + d) ≡ false
unfolding all_to
further p m zero wrong =
    let e : m + 0 ≡ m = omega arith in
    rw e wrong
further p m (suc d) wrong =
    let e : m + suc d ≡ suc (m + d) = omega arith in
    rw (e, further p m d wrong)

-- what fails below m fails below any number that is as large
pub all_less : (p : ℕ → Bool) (m n : ℕ) → m ≤ n → all_to p m ≡ false → all_to p n ≡ false
all_less p m n h wrong =
    let e : m + (n - m) ≡ n = omega arith in
    rw e at (further p m (n - m) wrong)
