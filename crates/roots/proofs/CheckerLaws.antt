-- The checker's arithmetic over plain numbers: digits moved up, and the ways out of `is_nearest`.
-- Assumes nothing.
use Rattle.std.proofs.Common.{◌≡◌, ℕ, suc, ◌+◌, ◌-◌, ◌*◌, ◌/◌, ◌%◌, ◌^◌, ◌<◌, ◌≤◌, true, false, leb, mul-le-mul_left, add-one, arith, pow_mono, le-ltb, lt-ltb, le-leb}
use native.Mathlib.Nat.{pow-succ'}
use borrow.Author.Tests.{lt-leb}
use Rattle.roots.specs.Checker.{nearest, moved_up, digits_of, exponent_of, nearest_bits}

-- ---- digits moved up
pub one_more : (digits k : ℕ) → digits * 2 ^ (k + 1) ≡ digits * 2 ^ k * 2
one_more digits k = rw (add-one k, pow-succ' 2 k) (omega arith)

pub moved_whole : (digits places : ℕ) → digits * 2 ^ places < 2 ^ 55 → digits * 2 ^ places ≡ moved_up digits places
moved_whole digits places h = rw (lt-ltb _ _ h)

pub moved_past : (digits places k : ℕ) → k < places → 2 ^ 54 ≤ digits * 2 ^ k → 0 ≡ moved_up digits places
moved_past digits places k l h =
    let e : digits * 2 ^ suc k ≡ 2 * (digits * 2 ^ k) = rw (pow-succ' 2 k) (omega arith) in
    let g : digits * 2 ^ suc k ≤ digits * 2 ^ places = mul-le-mul_left digits (pow_mono l) in
    let past : 2 ^ 55 ≤ digits * 2 ^ places = omega arith in
    rw (le-ltb _ _ past)

-- ---- the ways out of `is_nearest`
pub subnormal_fails : (x r : ℕ) → r < 2 ^ 52 → false ≡ nearest_bits x r
unfolding nearest_bits
subnormal_fails x r h = rw (lt-leb (2 ^ 52) r h)

pub infinite_fails : (x r : ℕ) → 2 ^ 52 ≤ r → 2047 * 2 ^ 52 ≤ r → false ≡ nearest_bits x r
unfolding nearest_bits
infinite_fails x r h k = rw (le-leb (2 ^ 52) r h, le-ltb r (2047 * 2 ^ 52) k)

module _ (x r u w : ℕ) (least : 2 ^ 52 ≤ r) (most : r < 2047 * 2 ^ 52) (eu : u ≡ exponent_of x) (ew : w ≡ exponent_of r) where
  field : w ≡ r / 2 ^ 52
  field = rw (le-ltb r (2 ^ 52) least) at ew

  pub too_high_fails : u + 1024 < 2 * w → false ≡ nearest_bits x r
  unfolding nearest_bits
  too_high_fails h =
      let t : leb (2 * (r / 2 ^ 52)) (exponent_of x + 1024) ≡ false = lt-leb _ _ (rw (field, eu) at h) in
      rw (le-leb (2 ^ 52) r least, lt-ltb r (2047 * 2 ^ 52) most, le-ltb r (2 ^ 52) least, t)

  pub passes : (d s : ℕ) → 2 * w ≤ u + 1024 → d ≡ digits_of x → s ≡ moved_up d (u + 1024 - 2 * w) → nearest (s * 2 ^ 53) (r % 2 ^ 52 + 2 ^ 52) ≡ nearest_bits x r
  unfolding nearest_bits
  passes d s h ed es =
      let t : leb (2 * (r / 2 ^ 52)) (exponent_of x + 1024) ≡ true = le-leb _ _ (rw (field, eu) at h) in
      rw (es, ed, eu, field, le-leb (2 ^ 52) r least, lt-ltb r (2047 * 2 ^ 52) most, le-ltb r (2 ^ 52) least, t)
