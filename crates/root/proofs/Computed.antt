-- `sqrt f x` of a positive number is the value nearest to its root, for either format: its digits are the nearest whole root, and there are enough of them.
-- Assumes nothing.
use mathlib.Core.Path.{◌≡◌, refl, sym, ap, ◌∙◌, subst}
use mathlib.Core.Bool.{Bool, true, false, not, cond}
use Prim.Native.Nat.{ℕ, zero, suc, ◌+◌, ◌-◌, ◌*◌, ◌/◌, ◌^◌, ◌≤◌, ◌<◌}
use native.Mathlib.Nat.{le_trans, le_of_eq, lt_of_lt_of_le, lt_of_le_of_lt, lt_of_not-le, not-le_of_lt, lt-suc_self, zero-lt-suc, mul_assoc, mul-pos, mul-le-mul, mul-le-mul_right, mul-lt-mul_of_pos_right, lt_of_mul-lt-mul_right, mul-div_cancel, pow-succ'}
use native.Mathlib.Omega.{arith}
use lib.IntN.{ℤ}
use lib.Dec.{T, leb, ltb, leb→le, nleb→lt, lt→ltb, lit≤, lit<}
use lib.Pow.{pow_pos, pow_mono, pow-lt, pow-add}
use lib.Ieee.{Float, inf, fin, Format, binary32, binary64, prec, emax, low, up, down, size, odd, units, fits, hid}
use lib.Ieee.Digits.{back, size-lt, size-le, size_reaches}
use lib.Ieee.Fits.{two, odd-fits, up_pos, down_pos}
use lib.Ieee.Exact.{units_val}
use lib.Ieee.Positive.{num, den, positive_of_value, value→cross, first_pos}
use Rattle.root.specs.Integers.{FloorRoot, NearestRoot}
use Rattle.root.specs.Root.{Root}
use Rattle.root.specs.Sqrt.{whole_root, nearest_root, sqrt}
use Rattle.root.proofs.Rounds.{rounds_up, rounds_down, root_reaches}
use Rattle.root.proofs.Numbers.{four, four_squared}
use Rattle.root.proofs.Fractions.{fits_parts, digits, near_root}

-- ---- the whole part of a root
abbrev Whole : ℕ → ℕ → Type 0
Whole n q = (q * q ≤ n) × (n < (q + 1) * (q + 1))

one_digit : (n q : ℕ) → Whole (n / 4) q → Whole n (cond (leb ((2 * q + 1) * (2 * q + 1)) n) (2 * q + 1) (2 * q))
one_digit n q h = go (leb ((2 * q + 1) * (2 * q + 1)) n) (leb→le ((2 * q + 1) * (2 * q + 1)) n) (nleb→lt ((2 * q + 1) * (2 * q + 1)) n)
  where
    go : (b : Bool) → (T b → (2 * q + 1) * (2 * q + 1) ≤ n) → (T (not b) → n < (2 * q + 1) * (2 * q + 1)) → Whole n (cond b (2 * q + 1) (2 * q))
    go true f g = (f tt, omega (arith, h.1))
    go false f g = (omega (arith, h.0), g tt)

whole_is : (k n : ℕ) → n < 4 ^ k → Whole n (whole_root k n)
unfolding whole_root
whole_is zero n h = (omega (arith, h), omega (arith, h))
whole_is (suc k) n h = one_digit n (whole_root k (n / 4)) (whole_is k (n / 4) (quarter n (4 ^ k) (rw (pow-succ' 4 k) at h)))
  where
    quarter : (n p : ℕ) → n < 4 * p → n / 4 < p
    quarter n p h = omega arith

-- ---- the nearest, with its bounds
near_is : (k h n : ℕ) → n < 4 ^ k → 0 < h → h * h ≤ n → NearestRoot n (nearest_root k n) × (h ≤ nearest_root k n) × (nearest_root k n ≤ 2 ^ k)
unfolding nearest_root
near_is k h n l H g = go (leb n (q * q + q)) (leb→le n (q * q + q)) (nleb→lt n (q * q + q))
  where
    q : ℕ
    q = whole_root k n

    w : Whole n q
    w = whole_is k n l

    floor : FloorRoot n q (n - q * q)
    floor = record { whole = omega (arith, w.0); small = omega (arith, w.0, w.1) }

    reaches : h ≤ q
    reaches = root_reaches h n q (n - q * q) floor g

    top : q < 2 ^ k
    top = lt_of_not-le (λ (s : 2 ^ k ≤ q). not-le_of_lt l (le_trans (le_of_eq (four_squared k)) (le_trans (mul-le-mul s s) w.0)))

    go : (b : Bool) → (T b → n ≤ q * q + q) → (T (not b) → q * q + q < n)
        → NearestRoot n (cond b q (q + 1)) × (h ≤ cond b q (q + 1)) × (cond b q (q + 1) ≤ 2 ^ k)
    go true f g = (rounds_down n q (n - q * q) floor (omega (arith, reaches)) (omega (arith, f tt)), reaches, omega (arith, top))
    go false f g = (rounds_up n q (n - q * q) floor (omega (arith, g tt)), omega (arith, reaches), omega (arith, top))

-- ---- the digits of p * 2 ^ i
size_gt : (n j : ℕ) → 2 ^ j ≤ n → j < size n
size_gt n j h = lt_of_not-le (λ (g : size n ≤ j). not-le_of_lt (lt_of_lt_of_le (size-lt n) (pow_mono g)) h)

size_pos : (p : ℕ) → 0 < p → 0 < size p
size_pos p h = size_gt p 0 h

-- 2 ^ (z - 1) ≤ p < 2 ^ z, moved up by i
reaches_up : (p i : ℕ) → 0 < p → 2 ^ (size p - 1 + i) ≤ p * 2 ^ i
reaches_up p i h =
    let z = size_pos p h in
    le_trans (le_of_eq (pow-add 2 (size p - 1) i)) (mul-le-mul_right (2 ^ i) (size_reaches p (size p - 1) (omega arith)))

stays_under : (p i : ℕ) → p * 2 ^ i < 2 ^ (size p + i)
stays_under p i = lt_of_lt_of_le (mul-lt-mul_of_pos_right (size-lt p) (pow_pos i)) (le_of_eq (sym (pow-add 2 (size p) i)))

size_shift : (p i : ℕ) → 0 < p → size (p * 2 ^ i) ≡ size p + i
size_shift p i h =
    let z = size_pos p h in
    let a : size (p * 2 ^ i) ≤ size p + i = size-le (p * 2 ^ i) (size p + i) (stays_under p i) in
    let b : size p - 1 + i < size (p * 2 ^ i) = size_gt (p * 2 ^ i) (size p - 1 + i) (reaches_up p i h) in
    omega arith

-- ---- of the format: its smallest value is small enough that every root is normal
deep : (f : Format) → 2 * prec f ≤ low f + 2
deep binary32 = lit≤ tt
deep binary64 = lit≤ tt

wide : (f : Format) → 0 < emax f
wide binary32 = lit< tt
wide binary64 = lit< tt

-- ---- how many digits the root drops: x is p * 2 ^ i over the square of the smallest value, p has z digits, the format P, and w of the root's are dropped
module _ (P l E z i w : ℕ) (two-P : 2 ≤ P) (dp : 2 * P ≤ l + 2) (zp : 0 < z) (z_p : z ≤ P) (li : l ≤ i) (e : w ≡ suc (z + i) / 2 - P) where
  dropped : 2 * w ≤ i
  dropped = omega arith

  least_digits : P - 1 + (P - 1) ≤ z - 1 + (i - 2 * w)
  least_digits = omega arith

  most_digits : z + (i - 2 * w) ≤ 2 * P
  most_digits = omega arith

  reach_w : 0 < E → z + i ≤ l + suc E + l → P + w < l + suc E
  reach_w h k = omega arith

-- ---- `units` below the overflow
units_fit : (f : Format) (q k : ℕ) → q ≤ 2 ^ prec f → q * 2 ^ k < 2 ^ (low f + suc (emax f)) → T (fits f (units f false q k))
unfolding units
units_fit f q k a b = go (ltb (q * 2 ^ k) (2 ^ (low f + suc (emax f)))) (lt→ltb (q * 2 ^ k) (2 ^ (low f + suc (emax f))) b)
  where
    go : (t : Bool) → T t → T (fits f (cond t (odd (suc (prec f)) false q k (low f)) (inf false)))
    go true t = odd-fits f (suc (prec f)) false q k (lt_of_le_of_lt a (pow-lt (lt-suc_self (prec f)))) a b
    go false t = absurd t

-- ---- the theorem, for an x of p * 2 ^ j smallest values: n is p moved to twice as many digits as the format has, or one less, and q is nearest to n's root
quarters : (p i w : ℕ) → 2 * w ≤ i → p * 2 ^ i ≡ p * 2 ^ (i - 2 * w) * 4 ^ w
quarters p i w h =
    ap (λ (x : ℕ). p * 2 ^ x) (sym (back i (2 * w) h))
    ∙ ap (λ (x : ℕ). p * x) (pow-add 2 (i - 2 * w) (2 * w))
    ∙ sym (mul_assoc p (2 ^ (i - 2 * w)) (2 ^ (2 * w)))
    ∙ ap (λ (x : ℕ). p * 2 ^ (i - 2 * w) * x) (sym (four w))

module _ (f : Format) (x : Float) (p j : ℕ) (pp : 0 < p) (ps : p < 2 ^ prec f) (ev : num x * 2 ^ low f ≡ p * 2 ^ j * den x) (top : p * 2 ^ j < 2 ^ (low f + suc (emax f))) where
  pub computed_root : (w : ℕ) → w ≡ suc (size (p * 2 ^ j * 2 ^ low f)) / 2 - prec f → Root f x (units f false (nearest_root (prec f) (p * 2 ^ j * 2 ^ low f / 4 ^ w)) w)
  computed_root w ew =
      let P = prec f in
      let l = low f in
      let i = j + l in
      let z = size p in
      let n = p * 2 ^ (i - 2 * w) in
      let zp : 0 < z = size_pos p pp in
      let z_p : z ≤ P = size-le p P ps in
      let li : l ≤ i = omega arith in
      let shift : p * 2 ^ j * 2 ^ l ≡ p * 2 ^ i = mul_assoc p (2 ^ j) (2 ^ l) ∙ ap (λ (y : ℕ). p * y) (sym (pow-add 2 j l)) in
      let e : w ≡ suc (z + i) / 2 - P = ew ∙ ap (λ (y : ℕ). suc (size y) / 2 - P) shift ∙ ap (λ (y : ℕ). suc y / 2 - P) (size_shift p i pp) in
      let d : 2 * w ≤ i = dropped P l (emax f) z i w (two f) (deep f) zp z_p li e in
      let en : p * 2 ^ j * 2 ^ l ≡ n * 4 ^ w = shift ∙ quarters p i w d in
      let four_pos : 0 < 4 ^ w = subst (λ (y : ℕ). 0 < y) (sym (four w)) (pow_pos (2 * w)) in
      let en' : p * 2 ^ j * 2 ^ l / 4 ^ w ≡ n = ap (λ (y : ℕ). y / 4 ^ w) en ∙ mul-div_cancel n four_pos in
      let n_low : hid f * hid f ≤ n = le_trans (le_of_eq (sym (pow-add 2 (P - 1) (P - 1)))) (le_trans (pow_mono (least_digits P l (emax f) z i w (two f) (deep f) zp z_p li e)) (reaches_up p (i - 2 * w) pp)) in
      let n_high : n < 4 ^ P = subst (λ (y : ℕ). n < y) (sym (four P)) (lt_of_lt_of_le (stays_under p (i - 2 * w)) (pow_mono (most_digits P l (emax f) z i w (two f) (deep f) zp z_p li e))) in
      let r = near_is P (hid f) n n_high (pow_pos (P - 1)) n_low in
      let q = nearest_root P n in
      let value_top : p * 2 ^ j * 2 ^ l < 2 ^ (l + suc (emax f) + l) = rw (pow-add 2 (l + suc (emax f)) l) (mul-lt-mul_of_pos_right top (pow_pos l)) in
      let size_most : size (p * 2 ^ i) ≤ l + suc (emax f) + l = size-le (p * 2 ^ i) (l + suc (emax f) + l) (rw shift at value_top) in
      let size_top : z + i ≤ l + suc (emax f) + l = rw (size_shift p i pp) at size_most in
      let reach : 2 ^ (P + w) < 2 ^ (l + suc (emax f)) = pow-lt (reach_w P l (emax f) z i w (two f) (deep f) zp z_p li e (wide f) size_top) in
      let under : q * 2 ^ w < 2 ^ (l + suc (emax f)) = lt_of_le_of_lt (mul-le-mul_right (2 ^ w) r.2) (rw (pow-add 2 P w) at reach) in
      let v = units_val f false q w under in
      let qp : 0 < q = lt_of_lt_of_le (pow_pos (P - 1)) r.1 in
      subst (λ (y : ℕ). Root f x (units f false (nearest_root P y) w)) (sym en')
      (near_root f x (units f false q w) (p * 2 ^ j) n q w (units_fit f q w r.2 under)
      (positive_of_value (units f false q w) (q * 2 ^ w) (2 ^ l) v (mul-pos qp (pow_pos w))) ev (value→cross (units f false q w) (q * 2 ^ w) (2 ^ l) v) en r.0 r.1 n_low)

-- ---- `sqrt`
under_top : (a b d l E : ℕ) → a * 2 ^ l ≡ b * d → a < 2 ^ E * d → b < 2 ^ (l + E)
under_top a b d l E e h =
    let scaled : a * 2 ^ l < 2 ^ E * d * 2 ^ l = mul-lt-mul_of_pos_right h (pow_pos l) in
    let same : 2 ^ E * d * 2 ^ l ≡ 2 ^ (l + E) * d = rw (pow-add 2 l E) (omega arith) in
    lt_of_mul-lt-mul_right d (rw (e, same) at scaled)

pub sqrt_root : (f : Format) (m : ℕ) (e : ℤ) → T (fits f (fin false (suc m) e)) → Root f (fin false (suc m) e) (sqrt f (fin false (suc m) e))
unfolding sqrt
sqrt_root f m e h =
    let x = fin false (suc m) e in
    let d = digits f x h tt in
    let p = d.0 in
    let j = d.1 in
    let ev : suc m * up e * 2 ^ low f ≡ p * 2 ^ j * down e = d.3 in
    let u : 0 < p * 2 ^ j * down e = subst (λ (y : ℕ). 0 < y) ev (mul-pos (mul-pos (zero-lt-suc m) (up_pos e)) (pow_pos (low f))) in
    let pp : 0 < p = first_pos p (2 ^ j) (first_pos (p * 2 ^ j) (down e) u) in
    let q : suc m * up e * 2 ^ low f / down e ≡ p * 2 ^ j = ap (λ (y : ℕ). y / down e) ev ∙ mul-div_cancel (p * 2 ^ j) (down_pos e) in
    subst (λ (n : ℕ). Root f x (units f false (nearest_root (prec f) (n * 2 ^ low f / 4 ^ (suc (size (n * 2 ^ low f)) / 2 - prec f))) (suc (size (n * 2 ^ low f)) / 2 - prec f))) (sym q)
    (computed_root f x p j pp d.2 ev (under_top (suc m * up e) (p * 2 ^ j) (down e) (low f) (suc (emax f)) ev (fits_parts f m e h).2) (suc (size (p * 2 ^ j * 2 ^ low f)) / 2 - prec f) refl)
