-- What the tests of `square_root` and `positive_root` say of x, and the answer on each way out.
-- Assumes nothing.
use mathlib.Core.Path.{◌≡◌, refl, sym, ap, ◌∙◌, subst}
use mathlib.Core.Logic.{◌⊎◌, inl, inr}
use mathlib.Core.Bool.{Bool, true, false, not, cond, true≢false}
use Prim.Native.Nat.{ℕ, zero, suc, ◌+◌, ◌*◌, ◌/◌, ◌%◌, ◌^◌, ◌≤◌, ◌<◌}
use native.Mathlib.Nat.{eq-zero-or-pos, lt_irrefl, mul-pos, zero-lt-suc}
use native.Mathlib.Omega.{arith}
use lib.Arith.{lt→nleb}
use lib.Dec.{T, eqb, leb, ltb→lt, lt→ltb, le→leb}
use lib.Ieee.{Float, nan, inf, fin, Format, binary64, prec, low, hid, ones, up, down, odd, lt, div, fits, is_nan, nan_bits, of_fields, of_bits, to_bits}
use lib.Ieee.Fits.{up_pos}
use lib.Ieee.Bits.{of_bits-to_bits, nan_bits_is, is_true, is_false}
use lib.Ieee.Positive.{positive}
use Rattle.root.specs.Root.{Root, Rooted}
use Rattle.root.specs.Integers.{infinity_bits, RootBits}
use Rattle.root.proofs.Numbers.{lt_or_le}
use Rattle.root.proofs.Read.{bits_root}

-- the code's 0.0
abbrev +0 : Float
+0 = of_bits binary64 0

is_T : {b : Bool} → b ≡ true → T b
is_T e = subst T (sym e) tt

-- ---- on finite numbers `lt` compares products with the powers of two, up and down: what it says of a zero, and of m + 1
zero_not_above : (u v : ℕ) → 0 * v < 0 * u * 1 → ⊥
zero_not_above u v h = omega arith

zero_not_below : (u v : ℕ) → 0 < 0 * u * 1 + 0 * v → ⊥
zero_not_below u v h = omega arith

none_below : (a v : ℕ) → a < 0 * v → ⊥
none_below a v h = omega arith

some_above : (m u v : ℕ) → 0 < u → 0 * v < suc m * u * 1
some_above m u v p = omega (arith, mul-pos (zero-lt-suc m) p)

some_below : (m u v : ℕ) → 0 < u → 0 < suc m * u * 1 + 0 * v
some_below m u v p = omega (arith, mul-pos (zero-lt-suc m) p)

-- ---- x > 0.0
infinite_or_positive : (x : Float) → lt +0 x ≡ true → (x ≡ inf false) ⊎ T (positive x)
unfolding lt of_bits
infinite_or_positive nan h = absurd (true≢false (sym h))
infinite_or_positive (inf true) h = absurd (true≢false (sym h))
infinite_or_positive (inf false) h = inl refl
infinite_or_positive (fin true m e) h = absurd (true≢false (sym h))
infinite_or_positive (fin false zero e) h = absurd (zero_not_above (up e) (down e) (ltb→lt (0 * down e) (0 * up e * 1) (is_T h)))
infinite_or_positive (fin false (suc m) e) h = inr (lt→ltb 0 (suc m) (zero-lt-suc m))

pub no_nan : (x : Float) → lt +0 x ≡ true → T (not (is_nan x))
unfolding lt is_nan of_bits
no_nan nan h = absurd (true≢false (sym h))
no_nan (inf s) h = tt
no_nan (fin s m e) h = tt

-- ---- x < 0.0
pub answer_negative : (x : Float) → lt x +0 ≡ true → Rooted binary64 x (div binary64 +0 +0)
unfolding lt of_bits div
answer_negative nan h = absurd (true≢false (sym h))
answer_negative (inf true) h = refl
answer_negative (inf false) h = absurd (true≢false (sym h))
answer_negative (fin true zero e) h = absurd (zero_not_below (up e) (down e) (ltb→lt 0 (0 * up e * 1 + 0 * down e) (is_T h)))
answer_negative (fin false zero e) h = absurd (none_below (0 * up e * 1) (down e) (ltb→lt (0 * up e * 1) (0 * down e) (is_T h)))
answer_negative (fin true (suc m) e) h = refl
answer_negative (fin false (suc m) e) h = absurd (none_below (suc m * up e * 1) (down e) (ltb→lt (suc m * up e * 1) (0 * down e) (is_T h)))

-- ---- neither: a zero or a NaN
pub answer_itself : (x : Float) → lt +0 x ≡ false → lt x +0 ≡ false → Rooted binary64 x x
unfolding lt of_bits
answer_itself nan a b = refl
answer_itself (inf true) a b = absurd (true≢false b)
answer_itself (inf false) a b = refl
answer_itself (fin s zero e) a b = refl
answer_itself (fin true (suc m) e) a b = absurd (true≢false (sym (is_true _ (lt→ltb 0 (suc m * up e * 1 + 0 * down e) (some_below m (up e) (down e) (up_pos e)))) ∙ b))
answer_itself (fin false (suc m) e) a b = absurd (true≢false (sym (is_true _ (lt→ltb (0 * down e) (suc m * up e * 1) (some_above m (up e) (down e) (up_pos e)))) ∙ a))

-- ---- bits from those of infinity on are not a positive number's
odd_not_positive : (d q k l : ℕ) → T (positive (odd d true q k l)) → ⊥
unfolding odd
odd_not_positive d zero k l p = p
odd_not_positive d (suc q) k l p = p

sign_not_positive : (f : Format) (x t : ℕ) → T (positive (of_fields f true x t)) → ⊥
unfolding of_fields
sign_not_positive f zero t p = odd_not_positive _ t 0 _ p
sign_not_positive f (suc x) t p = go (eqb (suc x) (ones f)) (eqb t 0) p
  where
    go : (a b : Bool) → T (positive (cond a (cond b (inf true) nan) (odd (prec f) true (hid f + t) x (low f)))) → ⊥
    go true true p = p
    go true false p = p
    go false b p = odd_not_positive (prec f) (hid f + t) x (low f) p

top_not_positive : (t : ℕ) → T (positive (of_fields binary64 false 2047 t)) → ⊥
unfolding of_fields
top_not_positive t p = go (eqb t 0) p
  where
    go : (b : Bool) → T (positive (cond b (inf false) nan)) → ⊥
    go true p = p
    go false p = p

high_not_positive : (b : ℕ) → infinity_bits binary64 ≤ b → T (positive (of_bits binary64 b)) → ⊥
unfolding of_bits
high_not_positive b h p = elim (lt_or_le b (2 ^ 63)) [
  | inl l ↦
      let z : leb (2 ^ 63) b ≡ false = is_false (leb (2 ^ 63) b) (lt→nleb (2 ^ 63) b l) in
      let y : b % 2 ^ 63 / 2 ^ 52 ≡ 2047 = omega arith in
      top_not_positive (b % 2 ^ 52) (rw (z, y) at p)
  | inr l ↦
      let z : leb (2 ^ 63) b ≡ true = is_true (leb (2 ^ 63) b) (le→leb (2 ^ 63) b l) in
      sign_not_positive binary64 (b % 2 ^ 63 / 2 ^ 52) (b % 2 ^ 52) (rw z at p)
]

zero_fails : lt +0 +0 ≡ false
unfolding lt of_bits
zero_fails = refl

infinity_bits_lem : to_bits binary64 (inf false) ≡ infinity_bits binary64
unfolding to_bits
infinity_bits_lem = refl

answer_root : (x r : Float) → T (positive x) → Root binary64 x r → Rooted binary64 x r
answer_root nan r p h = absurd p
answer_root (inf s) r p h = absurd p
answer_root (fin true m e) r p h = absurd p
answer_root (fin false zero e) r p h = absurd p
answer_root (fin false (suc m) e) r p h = h

positive_no_nan : (x : Float) → T (positive x) → T (not (is_nan x))
unfolding is_nan
positive_no_nan nan p = absurd p
positive_no_nan (inf s) p = tt
positive_no_nan (fin s m e) p = tt

-- ---- the ways out of `positive_root`
module _ (x : Float) (held : T (fits binary64 x)) (above : lt +0 x ≡ true) where
  pub answer_infinity : infinity_bits binary64 ≤ to_bits binary64 x → Rooted binary64 x x
  answer_infinity h = elim (infinite_or_positive x above) [
    | inl e ↦ subst (λ (z : Float). Rooted binary64 z z) (sym e) refl
    | inr p ↦ absurd (high_not_positive (to_bits binary64 x) h (subst (λ (z : Float). T (positive z)) (sym (of_bits-to_bits binary64 x held)) p))
  ]

  pub bits_above_zero : 0 < to_bits binary64 x
  bits_above_zero = elim (eq-zero-or-pos (to_bits binary64 x)) [
    | inl z ↦
        let e : x ≡ +0 = sym (of_bits-to_bits binary64 x held) ∙ ap (of_bits binary64) z in
        absurd (true≢false (sym (rw e at above) ∙ zero_fails))
    | inr p ↦ p
  ]

  is_positive : to_bits binary64 x < infinity_bits binary64 → T (positive x)
  is_positive h = elim (infinite_or_positive x above) [
    | inl e ↦ absurd (lt_irrefl (infinity_bits binary64) (subst (λ (z : ℕ). z < infinity_bits binary64) (ap (to_bits binary64) e ∙ infinity_bits_lem) h))
    | inr p ↦ p
  ]

  -- from the bits to the number that they are
  module _ (r : ℕ) (finite : to_bits binary64 x < infinity_bits binary64) (bits : RootBits binary64 (to_bits binary64 x) r) where
    is_root : Root binary64 x (of_bits binary64 r)
    is_root = subst (λ (z : Float). Root binary64 z (of_bits binary64 r)) (of_bits-to_bits binary64 x held) (bits_root binary64 (to_bits binary64 x) r finite bits)

    pub no_nan_bits : T (not (nan_bits binary64 r))
    no_nan_bits = subst (λ (z : Bool). T (not z)) (sym (nan_bits_is binary64 r)) (positive_no_nan (of_bits binary64 r) is_root.above_zero)

    pub answer_bits : Rooted binary64 x (of_bits binary64 r)
    answer_bits = answer_root x (of_bits binary64 r) (is_positive finite) is_root
