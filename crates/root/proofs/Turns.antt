-- A turn of the loop of `floor_root`, over plain numbers: one more digit of the root of a * 2 ^ 52, whose digits not brought down yet are rest * 4 ^ (53 - k) / 2 ^ 54.
-- Assumes nothing.
use mathlib.Core.Path.{◌≡◌, sym, ap, ◌∙◌}
use mathlib.Core.Bool.{Bool, true, false, not, cond}
use Prim.Native.Nat.{ℕ, ◌+◌, ◌-◌, ◌*◌, ◌/◌, ◌%◌, ◌^◌, ◌≤◌, ◌<◌}
use native.Mathlib.Nat.{pow-suc, pow-succ', mul_assoc, mul_comm}
use native.Mathlib.Numerals.{add-one}
use native.Mathlib.Omega.{arith}
use lib.Dec.{T, leb, leb→le, nleb→lt}
use lib.Pow.{pow_mono}

more_four : (a k : ℕ) → a * 4 ^ (k + 1) ≡ 4 * (a * 4 ^ k)
more_four a k = ap (λ (x : ℕ). a * 4 ^ x) (add-one k) ∙ ap (λ (x : ℕ). a * x) (pow-suc 4 k) ∙ sym (mul_assoc a (4 ^ k) 4) ∙ mul_comm (a * 4 ^ k) 4

pub more_two : (k : ℕ) → 2 ^ (k + 1) ≡ 2 * 2 ^ k
more_two k = ap (λ (x : ℕ). 2 ^ x) (add-one k) ∙ pow-succ' 2 k

square : (root : ℕ) → (root * 2 + 1) * (root * 2 + 1) ≡ 4 * (root * root) + (root * 4 + 1)
square root = omega arith

-- what is left with two more digits brought down
abbrev brought : ℕ → ℕ → ℕ
brought left rest = left * 4 + rest / 2 ^ 52

-- what the loop's invariant says after a turn that found the digit d and leaves l
abbrev After : ℕ → ℕ → ℕ → ℕ → ℕ → ℕ → Type 0
After a root rest k d l = (l ≤ 2 * (root * 2 + d)) × (((root * 2 + d) * (root * 2 + d) + l) * 2 ^ 54 + rest % 2 ^ 52 * 4 ≡ a * 4 ^ (k + 1))

pub turn_holds : (a root left rest k d l : ℕ) → (root * root + left) * 2 ^ 54 + rest ≡ a * 4 ^ k → left ≤ 2 * root → rest < 2 ^ 54
    → d ≡ cond (leb (root * 4 + 1) (brought left rest)) 1 0 → l ≡ cond (leb (root * 4 + 1) (brought left rest)) (brought left rest - (root * 4 + 1)) (brought left rest)
    → After a root rest k d l
turn_holds a root left rest k d l e s r ed el =
    rw (ed, el) (go (leb (root * 4 + 1) (brought left rest)) (leb→le (root * 4 + 1) (brought left rest)) (nleb→lt (root * 4 + 1) (brought left rest)))
  where
    go : (t : Bool) → (T t → root * 4 + 1 ≤ brought left rest) → (T (not t) → brought left rest < root * 4 + 1)
        → After a root rest k (cond t 1 0) (cond t (brought left rest - (root * 4 + 1)) (brought left rest))
    go true f g = (omega (arith, f tt), omega (arith, f tt, more_four a k, square root))
    go false f g = (omega (arith, g tt), omega (arith, more_four a k))

-- after 53 turns all digits are brought down
pub at_end : (a n rest : ℕ) → n * 2 ^ 54 + rest ≡ a * 4 ^ 53 → rest < 2 ^ 54 → n ≡ a * 2 ^ 52
at_end a n rest e h = omega arith

pub two_bound : (k : ℕ) → k ≤ 53 → 2 ^ k ≤ 2 ^ 53
two_bound k h = pow_mono {j = 53} h
