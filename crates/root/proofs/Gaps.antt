-- The integer side of "r is the nearest value of the format": of the numbers p * 2 ^ j with p < 2h, none is as near to the root of n * 4 ^ w as q * 2 ^ w,
-- where q is the whole number nearest to n's root and has all its digits, h ≤ q. Assumes nothing.
use mathlib.Core.Path.{◌≡◌, sym, ap, ◌∙◌, subst}
use mathlib.Core.Logic.{inl, inr}
use Prim.Native.Nat.{ℕ, suc, ◌+◌, ◌-◌, ◌*◌, ◌^◌, ◌≤◌, ◌<◌}
use native.Mathlib.Nat.{eq-or-lt_of_le, le_of_lt, le_trans, le_of_eq, lt_of_lt_of_le, lt_of_le_of_lt, not-le_of_lt, mul_assoc, mul-pos, mul-le-mul, mul-le-mul_left, mul-le-mul_right, mul-lt-mul_of_pos_right, lt_of_mul-lt-mul_right, mul-mul-mul_comm, pow-succ'}
use native.Mathlib.Omega.{arith}
use lib.Pow.{pow_pos, pow_mono, pow-add}
use lib.Ieee.Digits.{back}
use Rattle.root.specs.Integers.{NearestRoot}
use Rattle.root.proofs.Numbers.{lt_or_le, square_lt}

-- ---- from h * 2 ^ w on, a number of the format is a multiple of 2 ^ w
too_low : (h p j w : ℕ) → p < 2 * h → j < w → p * 2 ^ j < h * 2 ^ w
too_low h p j w l s =
    let e : 2 * h * 2 ^ j ≡ h * 2 ^ suc j = rw (pow-succ' 2 j) (omega arith) in
    lt_of_lt_of_le (mul-lt-mul_of_pos_right l (pow_pos j)) (le_trans (le_of_eq e) (mul-le-mul_left h (pow_mono s)))

gap : (h p j w : ℕ) → p < 2 * h → h * 2 ^ w ≤ p * 2 ^ j → (y : ℕ) × (p * 2 ^ j ≡ y * 2 ^ w)
gap h p j w l g = elim (lt_or_le j w) [
  | inl s ↦ absurd (not-le_of_lt (too_low h p j w l s) g)
  | inr s ↦ (p * 2 ^ (j - w), ap (λ (x : ℕ). p * 2 ^ x) (sym (back j w s)) ∙ ap (λ (x : ℕ). p * x) (pow-add 2 (j - w) w) ∙ sym (mul_assoc p (2 ^ (j - w)) (2 ^ w)))
]

-- ---- a bound on a sum s as one on its square, for units u
square_below : (s z u m : ℕ) → s ≤ z * u → z * z < m → 0 < u → s * s < m * (u * u)
square_below s z u m h k p = lt_of_le_of_lt (mul-le-mul h h) (rw (mul-mul-mul_comm z u z u) (mul-lt-mul_of_pos_right k (mul-pos p p)))

square_below_strict : (s z u m : ℕ) → s < z * u → z * z ≤ m → s * s < m * (u * u)
square_below_strict s z u m h k =
    lt_of_lt_of_le (square_lt s (z * u) h) (le_trans (le_of_eq (mul-mul-mul_comm z u z u)) (mul-le-mul_right (u * u) k))

square_above : (s z u m : ℕ) → z * u ≤ s → m < z * z → 0 < u → m * (u * u) < s * s
square_above s z u m h k p =
    lt_of_lt_of_le (mul-lt-mul_of_pos_right k (mul-pos p p)) (le_trans (le_of_eq (sym (mul-mul-mul_comm z u z u))) (mul-le-mul h h))

-- ---- a lower number of the format: the middle is at most (2q - 1) / 2, and at q = h, where the numbers below are closer together, still below q
middle_below : (n q z : ℕ) → NearestRoot n q → z + 1 ≡ 2 * q → z * z < 4 * n
middle_below n q z near e =
    let a = near.above in
    omega (arith, ap (λ (x : ℕ). x * x) e)

one_less : (s q z u : ℕ) → z + 1 ≡ 2 * q → s + u ≤ q * u → s + q * u ≤ z * u
one_less s q z u e h = omega (arith, ap (λ (x : ℕ). x * u) e)

whole_step : (y q u : ℕ) → y * u < q * u → y * u + u ≤ q * u
whole_step y q u h =
    let l : y < q = lt_of_mul-lt-mul_right u h in
    omega (arith, mul-le-mul_right u l)

apart : (h q w p j : ℕ) → p < 2 * h → h < q → p * 2 ^ j < q * 2 ^ w → p * 2 ^ j + 2 ^ w ≤ q * 2 ^ w
apart h q w p j P l g = elim (lt_or_le (p * 2 ^ j) (h * 2 ^ w)) [
  | inl s ↦ omega (arith, mul-le-mul_right (2 ^ w) l)
  | inr s ↦
      let y = gap h p j w P s in
      subst (λ (x : ℕ). x + 2 ^ w ≤ q * 2 ^ w) (sym y.1) (whole_step y.0 q (2 ^ w) (subst (λ (x : ℕ). x < q * 2 ^ w) y.1 g))
]

pub nearer_than_lower : (h n q w p j : ℕ) → NearestRoot n q → 0 < h → h ≤ q → h * h ≤ n → p < 2 * h → p * 2 ^ j < q * 2 ^ w
    → (p * 2 ^ j + q * 2 ^ w) * (p * 2 ^ j + q * 2 ^ w) < 4 * n * (2 ^ w * 2 ^ w)
nearer_than_lower h n q w p j near H hq hn P g = elim (eq-or-lt_of_le hq) [
  | inl e ↦
      let k : q * q ≤ n = rw e at hn in
      square_below_strict (p * 2 ^ j + q * 2 ^ w) (2 * q) (2 ^ w) (4 * n) (omega arith) (omega arith)
  | inr l ↦
      let e : 2 * q - 1 + 1 ≡ 2 * q = omega arith in
      square_below (p * 2 ^ j + q * 2 ^ w) (2 * q - 1) (2 ^ w) (4 * n) (one_less (p * 2 ^ j) q (2 * q - 1) (2 ^ w) e (apart h q w p j P l g)) (middle_below n q (2 * q - 1) near e) (pow_pos w)
]

-- ---- a higher one: the middle is at least (2q + 1) / 2
pub nearer_than_higher : (h n q w p j : ℕ) → NearestRoot n q → h ≤ q → p < 2 * h → q * 2 ^ w < p * 2 ^ j
    → 4 * n * (2 ^ w * 2 ^ w) < (p * 2 ^ j + q * 2 ^ w) * (p * 2 ^ j + q * 2 ^ w)
nearer_than_higher h n q w p j near hq P g =
    let y = gap h p j w P (le_trans (mul-le-mul_right (2 ^ w) hq) (le_of_lt g)) in
    let s : q * 2 ^ w + 2 ^ w ≤ p * 2 ^ j = subst (λ (x : ℕ). q * 2 ^ w + 2 ^ w ≤ x) (sym y.1) (whole_step q y.0 (2 ^ w) (subst (λ (x : ℕ). q * 2 ^ w < x) y.1 g)) in
    square_above (p * 2 ^ j + q * 2 ^ w) (2 * q + 1) (2 ^ w) (4 * n) (omega arith) near.below (pow_pos w)
