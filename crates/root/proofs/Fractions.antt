-- From the integers to the values of a format: a value that fits is p * 2 ^ j of the smallest ones, and fractions over that unit compare as their numerators do.
-- `near_root` is the theorem that the nearest whole root makes the nearest value, for either format. Assumes nothing.
use mathlib.Core.Path.{◌≡◌, sym, ap, ◌∙◌, subst}
use mathlib.Core.Bool.{true, false, ◌&&◌}
use Prim.Native.Nat.{ℕ, zero, suc, ◌+◌, ◌-◌, ◌*◌, ◌%◌, ◌^◌, ◌≤◌, ◌<◌}
use native.Mathlib.Nat.{le_of_suc-le-suc, lt_of_lt_of_le, lt_of_not-le, lt_irrefl, mul_assoc, mul-one, mul-pos, mul-lt-mul_of_pos_right, lt_of_mul-lt-mul_right, pow-succ'}
use native.Mathlib.Omega.{arith}
use lib.IntN.{ℤ, pos, negsuc}
use lib.Dec.{T, leb, ltb, eqb, ltb→lt, lt→ltb, leb→le}
use lib.Pow.{pow_pos, pow-lt, pow-add}
use lib.Ieee.{Float, nan, inf, fin, Format, prec, emax, low, up, down, fits, lt, hid}
use lib.Ieee.Digits.{back}
use lib.Ieee.Fits.{two, and_l, and_r}
use lib.Ieee.Positive.{num, den, positive, den_pos}
use Rattle.root.specs.Integers.{NearestRoot}
use Rattle.root.specs.Root.{sum_of, unsigned, Root}
use Rattle.root.proofs.Numbers.{four_squared}
use Rattle.root.proofs.Gaps.{nearer_than_lower, nearer_than_higher}

-- ---- a value that fits, in units of the smallest
pow_le_back : (a l : ℕ) → 2 ^ a ≤ 2 ^ l → a ≤ l
pow_le_back a l h = le_of_suc-le-suc (lt_of_not-le (λ (g : suc l ≤ a). lt_irrefl (2 ^ l) (lt_of_lt_of_le (pow-lt g) h)))

place : (l : ℕ) (e : ℤ) → down e ≤ 2 ^ l → (j : ℕ) × ((m : ℕ) → m * up e * 2 ^ l ≡ m * 2 ^ j * down e)
place l (pos a) h = (a + l, λ m. mul_assoc m (2 ^ a) (2 ^ l) ∙ ap (λ (x : ℕ). m * x) (sym (pow-add 2 a l)) ∙ sym (mul-one (m * 2 ^ (a + l))))
place l (negsuc a) h =
    let le : suc a ≤ l = pow_le_back (suc a) l h in (
      l - suc a,
      λ m.
          ap (λ (x : ℕ). x * 2 ^ l) (mul-one m)
          ∙ ap (λ (x : ℕ). m * x) (ap (λ (x : ℕ). 2 ^ x) (sym (back l (suc a) le)) ∙ pow-add 2 (l - suc a) (suc a))
          ∙ sym (mul_assoc m (2 ^ (l - suc a)) (2 ^ suc a)),
    )

pub fits_parts : (f : Format) (m : ℕ) (e : ℤ) → T (fits f (fin false (suc m) e))
    → (suc m < 2 ^ prec f) × (down e ≤ 2 ^ low f) × (suc m * up e < 2 ^ suc (emax f) * down e)
unfolding fits
fits_parts f m e h =
    let is_odd = eqb (suc m % 2) 1 in
    let short = ltb (suc m) (2 ^ prec f) in
    let fine = leb (down e) (2 ^ low f) in
    let below = ltb (suc m * up e) (2 ^ suc (emax f) * down e) in
    let three = and_l (is_odd && short && fine) below h in (
      ltb→lt (suc m) (2 ^ prec f) (and_r is_odd short (and_l (is_odd && short) fine three)),
      leb→le (down e) (2 ^ low f) (and_r (is_odd && short) fine three),
      ltb→lt (suc m * up e) (2 ^ suc (emax f) * down e) (and_r (is_odd && short && fine) below h),
    )

pub digits : (f : Format) (y : Float) → T (fits f y) → T (unsigned y) → (p : ℕ) × (j : ℕ) × (p < 2 ^ prec f) × (num y * 2 ^ low f ≡ p * 2 ^ j * den y)
digits f nan h k = absurd k
digits f (inf s) h k = absurd k
digits f (fin true m e) h k = absurd k
digits f (fin false zero e) h k = (0, 0, pow_pos (prec f), none (up e) (2 ^ low f) (down e))
  where
    none : (u l d : ℕ) → 0 * u * l ≡ 0 * 1 * d
    none u l d = omega arith
digits f (fin false (suc m) e) h k =
    let parts = fits_parts f m e h in
    let z = place (low f) e parts.1 in
    (suc m, z.0, parts.0, z.1 (suc m))

twice_hid : (f : Format) → 2 ^ prec f ≡ 2 * hid f
twice_hid f =
    let t = two f in
    let e : suc (prec f - 1) ≡ prec f = omega arith in
    ap (λ (x : ℕ). 2 ^ x) (sym e) ∙ pow-succ' 2 (prec f - 1)

-- ---- the order of two values that are not below zero
pub positive_unsigned : (x : Float) → T (positive x) → T (unsigned x)
positive_unsigned nan p = absurd p
positive_unsigned (inf s) p = absurd p
positive_unsigned (fin true m e) p = absurd p
positive_unsigned (fin false m e) p = tt

pub lt→cross : (x y : Float) → T (unsigned x) → T (unsigned y) → T (lt x y) → num x * den y < num y * den x
unfolding lt
lt→cross nan y p q h = absurd p
lt→cross (inf s) y p q h = absurd p
lt→cross (fin true m e) y p q h = absurd p
lt→cross (fin false m e) nan p q h = absurd q
lt→cross (fin false m e) (inf t) p q h = absurd q
lt→cross (fin false m e) (fin true n d) p q h = absurd q
lt→cross (fin false m e) (fin false n d) p q h = ltb→lt (m * up e * down d) (n * up d * down e) h

pub cross→lt : (x y : Float) → T (positive x) → T (positive y) → num x * den y < num y * den x → T (lt x y)
unfolding lt
cross→lt nan y p q h = absurd p
cross→lt (inf s) y p q h = absurd p
cross→lt (fin true m e) y p q h = absurd p
cross→lt (fin false m e) nan p q h = absurd q
cross→lt (fin false m e) (inf t) p q h = absurd q
cross→lt (fin false m e) (fin true n d) p q h = absurd q
cross→lt (fin false m e) (fin false n d) p q h = lt→ltb (m * up e * down d) (n * up d * down e) h

-- ---- fractions a / b that are v / l, for one l
order : (a b c d l v w : ℕ) → a * l ≡ v * b → c * l ≡ w * d → 0 < l → a * d < c * b → v < w
order a b c d l v w e g L h =
    let i : a * d * l ≡ v * (b * d) = s1 ∙ ap (λ (x : ℕ). x * d) e ∙ mul_assoc v b d in
    let j : c * b * l ≡ w * (b * d) = s2 ∙ ap (λ (x : ℕ). x * b) g ∙ s3 in
    lt_of_mul-lt-mul_right (b * d) (subst (λ (x : ℕ). x < w * (b * d)) i (subst (λ (x : ℕ). a * d * l < x) j (mul-lt-mul_of_pos_right h L)))
  where
    s1 : a * d * l ≡ a * l * d
    s1 = omega arith

    s2 : c * b * l ≡ c * l * b
    s2 = omega arith

    s3 : w * d * b ≡ w * (b * d)
    s3 = omega arith

sum_is : (a b c d l v w : ℕ) → a * l ≡ v * b → c * l ≡ w * d → (a * d + c * b) * l ≡ (v + w) * (b * d)
sum_is a b c d l v w e g = s1 ∙ ap (λ (x : ℕ). x * d + c * l * b) e ∙ ap (λ (x : ℕ). v * b * d + x * b) g ∙ s2
  where
    s1 : (a * d + c * b) * l ≡ a * l * d + c * l * b
    s1 = omega arith

    s2 : v * b * d + w * d * b ≡ (v + w) * (b * d)
    s2 = omega arith

module _ (s d dx nx l v n : ℕ) (e : s * l ≡ v * d) (g : nx * l ≡ n * dx) where
  left_is : s * s * dx * (l * l) ≡ v * v * (d * d * dx)
  left_is =
      let a : s * s * dx * (l * l) ≡ s * l * (s * l) * dx = omega arith in
      let b : v * d * (v * d) * dx ≡ v * v * (d * d * dx) = omega arith in
      a ∙ ap (λ (x : ℕ). x * x * dx) e ∙ b

  right_is : 4 * nx * (d * d) * (l * l) ≡ 4 * (n * l) * (d * d * dx)
  right_is =
      let a : 4 * nx * (d * d) * (l * l) ≡ 4 * (nx * l) * (l * (d * d)) = omega arith in
      let b : 4 * (n * dx) * (l * (d * d)) ≡ 4 * (n * l) * (d * d * dx) = omega arith in
      a ∙ ap (λ (x : ℕ). 4 * x * (l * (d * d))) g ∙ b

  across_lt : 0 < d → 0 < dx → v * v < 4 * (n * l) → s * s * dx < 4 * nx * (d * d)
  across_lt D X h =
      lt_of_mul-lt-mul_right (l * l)
      (subst (λ (x : ℕ). x < 4 * nx * (d * d) * (l * l)) (sym left_is)
      (subst (λ (x : ℕ). v * v * (d * d * dx) < x) (sym right_is) (mul-lt-mul_of_pos_right h (mul-pos (mul-pos D D) X))))

  across_gt : 0 < d → 0 < dx → 4 * (n * l) < v * v → 4 * nx * (d * d) < s * s * dx
  across_gt D X h =
      lt_of_mul-lt-mul_right (l * l)
      (subst (λ (x : ℕ). 4 * nx * (d * d) * (l * l) < x) (sym left_is)
      (subst (λ (x : ℕ). x < v * v * (d * d * dx)) (sym right_is) (mul-lt-mul_of_pos_right h (mul-pos (mul-pos D D) X))))

-- ---- the theorem
scaled_is : (n l a w : ℕ) → n * l ≡ a * 4 ^ w → 4 * a * (2 ^ w * 2 ^ w) ≡ 4 * (n * l)
scaled_is n l a w e = mul_assoc 4 a (2 ^ w * 2 ^ w) ∙ ap (λ (x : ℕ). 4 * (a * x)) (sym (four_squared w)) ∙ ap (λ (x : ℕ). 4 * x) (sym e)

pub near_root : (f : Format) (x r : Float) (n a q w : ℕ) → T (fits f r) → T (positive r)
    → num x * 2 ^ low f ≡ n * den x → num r * 2 ^ low f ≡ q * 2 ^ w * den r → n * 2 ^ low f ≡ a * 4 ^ w
    → NearestRoot a q → hid f ≤ q → hid f * hid f ≤ a → Root f x r
near_root f x r n a q w F P ex er en near hq ha = record {
  held = F;
  above_zero = P;
  lower = λ y fy py h.
      let d = digits f y fy py in
      let p = d.0 in
      let j = d.1 in
      let small : p < 2 * hid f = subst (λ (z : ℕ). p < z) (twice_hid f) d.2 in
      let o = order (num y) (den y) (num r) (den r) (2 ^ low f) (p * 2 ^ j) (q * 2 ^ w) d.3 er (pow_pos (low f)) (lt→cross y r py (positive_unsigned r P) h) in
      across_lt (sum_of y r) (den y * den r) (den x) (num x) (2 ^ low f) (p * 2 ^ j + q * 2 ^ w) n
      (sum_is (num y) (den y) (num r) (den r) (2 ^ low f) (p * 2 ^ j) (q * 2 ^ w) d.3 er) ex (mul-pos (den_pos y) (den_pos r)) (den_pos x)
      (subst (λ (z : ℕ). (p * 2 ^ j + q * 2 ^ w) * (p * 2 ^ j + q * 2 ^ w) < z) (scaled_is n (2 ^ low f) a w en) (nearer_than_lower (hid f) a q w p j near (pow_pos (prec f - 1)) hq ha small o));
  upper = λ y fy py h.
      let d = digits f y fy py in
      let p = d.0 in
      let j = d.1 in
      let small : p < 2 * hid f = subst (λ (z : ℕ). p < z) (twice_hid f) d.2 in
      let o = order (num r) (den r) (num y) (den y) (2 ^ low f) (q * 2 ^ w) (p * 2 ^ j) er d.3 (pow_pos (low f)) (lt→cross r y (positive_unsigned r P) py h) in
      across_gt (sum_of y r) (den y * den r) (den x) (num x) (2 ^ low f) (p * 2 ^ j + q * 2 ^ w) n
      (sum_is (num y) (den y) (num r) (den r) (2 ^ low f) (p * 2 ^ j) (q * 2 ^ w) d.3 er) ex (mul-pos (den_pos y) (den_pos r)) (den_pos x)
      (subst (λ (z : ℕ). z < (p * 2 ^ j + q * 2 ^ w) * (p * 2 ^ j + q * 2 ^ w)) (scaled_is n (2 ^ low f) a w en) (nearer_than_higher (hid f) a q w p j near hq small o));
}
