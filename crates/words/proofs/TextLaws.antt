-- What sixteen bytes say, digit by digit.
-- Assumes nothing.
use mathlib.Core.Path.{◌≡◌, refl, ap, ◌∙◌}
use mathlib.Core.List.{List}
use mathlib.Core.Logic.{inl, inr}
use mathlib.Core.Bool.{Bool, true, false, ◌&&◌}
use Prim.Native.Nat.{ℕ, zero, suc, ◌+◌, ◌*◌, ◌^◌, ◌≤◌, ◌<◌}
use native.Mathlib.Nat.{eq-or-lt_of_le, le_of_suc-le-suc, not-suc-le-zero, pow-succ', pow-le-pow_right}
use native.Mathlib.Numerals.{add-one}
use native.Mathlib.Omega.{arith}
use borrow.Author.Tests.{lt-ltb, le-ltb}
use lib.Dec.{ltb, lit<}
use lib.ListN.{get_or}
use Rattle.words.specs.Text.{digit_value, all_digits, hex_value}

pub sixteen_more : (i : ℕ) → 16 ^ (i + 1) ≡ 16 * 16 ^ i
sixteen_more i = ap (λ (x : ℕ). 16 ^ x) (add-one i) ∙ pow-succ' 16 i

pub sixteen_bound : (i : ℕ) → i < 16 → 16 ^ i ≤ 2 ^ 60
sixteen_bound i h = pow-le-pow_right {n = 16} (lit< tt) {i = i} {j = 15} (le_of_suc-le-suc h)

pub digits_more : (line : List ℕ) (at i d : ℕ) → d ≡ digit_value (get_or line (at + i) 0) → d ≤ 15 → all_digits line at i ≡ true → all_digits line at (i + 1) ≡ true
unfolding all_digits
digits_more line at i d e h a =
    let l : digit_value (get_or line (at + i) 0) < 16 = omega arith in
    rw (add-one i, a, lt-ltb _ _ l)

pub hex_more : (line : List ℕ) (at i d v : ℕ) → d ≡ digit_value (get_or line (at + i) 0) → v ≡ hex_value line at i → v * 16 + d ≡ hex_value line at (i + 1)
unfolding hex_value
hex_more line at i d v e h = rw (add-one i, e, h)

pub digits_stop : (line : List ℕ) (at i n : ℕ) → i < n → 15 < digit_value (get_or line (at + i) 0) → all_digits line at n ≡ false
unfolding all_digits
digits_stop line at i zero l h = absurd (not-suc-le-zero l)
digits_stop line at i (suc n) l h = elim (eq-or-lt_of_le (le_of_suc-le-suc l)) [
  | inl e ↦
      let k : ltb (digit_value (get_or line (at + n) 0)) 16 ≡ false = le-ltb _ _ (rw e at h) in
      rw k (both_false (all_digits line at n))
  | inr k ↦ rw (digits_stop line at i n k h)
]
  where
    both_false : (b : Bool) → (b && false) ≡ false
    both_false true = refl
    both_false false = refl
