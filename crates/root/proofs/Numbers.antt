-- Laws on whole numbers that several of these files cite.
-- Assumes nothing.
use mathlib.Core.Path.{◌≡◌, refl, ap, ◌∙◌}
use mathlib.Core.Logic.{◌⊎◌, inl, inr}
use mathlib.Core.Bool.{Bool, true, false, not}
use Prim.Native.Nat.{ℕ, zero, suc, ◌+◌, ◌*◌, ◌^◌, ◌≤◌, ◌<◌}
use native.Mathlib.Nat.{mul-le-mul, lt_of_lt_of_le, pow-succ'}
use native.Mathlib.Omega.{arith}
use lib.Dec.{T, ltb, ltb→lt, nltb→le}
use lib.Pow.{pow-add}

pub lt_or_le : (a b : ℕ) → (a < b) ⊎ (b ≤ a)
lt_or_le a b = go (ltb a b) (ltb→lt a b) (nltb→le a b)
  where
    go : (t : Bool) → (T t → a < b) → (T (not t) → b ≤ a) → (a < b) ⊎ (b ≤ a)
    go true f g = inl (f tt)
    go false f g = inr (g tt)

pub square_lt : (s t : ℕ) → s < t → s * s < t * t
square_lt s t h =
    let a : suc s * suc s ≤ t * t = mul-le-mul h h in
    let d : s * s < suc s * suc s = omega arith in
    lt_of_lt_of_le d a

pub four : (h : ℕ) → 4 ^ h ≡ 2 ^ (2 * h)
four zero = refl
four (suc h) =
    let e : 2 * suc h ≡ suc (suc (2 * h)) = omega arith in
    rw (e, pow-succ' 4 h, pow-succ' 2 (suc (2 * h)), pow-succ' 2 (2 * h), four h) (omega arith)

pub four_squared : (h : ℕ) → 4 ^ h ≡ 2 ^ h * 2 ^ h
four_squared h =
    let e : 2 * h ≡ h + h = omega arith in
    four h ∙ ap (λ (x : ℕ). 2 ^ x) e ∙ pow-add 2 h h
