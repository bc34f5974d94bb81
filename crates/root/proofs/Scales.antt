-- How `scale_subnormal`, `scale` and `root_bits` move the binary digits of a number, over plain numbers.
-- Assumes nothing.
use mathlib.Core.Path.{◌≡◌, sym, ap, ◌∙◌}
use Prim.Native.Nat.{ℕ, zero, suc, ◌+◌, ◌-◌, ◌*◌, ◌/◌, ◌%◌, ◌^◌, ◌≤◌, ◌<◌}
use native.Mathlib.Nat.{lt_irrefl, pow-succ', mul_assoc, mul-mul-mul_comm}
use native.Mathlib.Omega.{arith}
use lib.Pow.{pow-add}
use lib.Ieee.{binary64}
use Rattle.root.specs.Integers.{units_of_fields, units_of_bits}
use Rattle.root.proofs.Numbers.{four}

-- ---- `scale_subnormal`
pub room_left : (t digits fours : ℕ) → t * 2 ^ 52 ≡ digits * 4 ^ fours → 0 < t → digits < 2 ^ 52 → 0 < fours
room_left t digits zero e p l = absurd (no t digits e p l)
  where
    no : (t digits : ℕ) → t * 2 ^ 52 ≡ digits * 1 → 0 < t → digits < 2 ^ 52 → ⊥
    no t digits e p l = omega arith
room_left t digits (suc fours) e p l = omega arith

pub two_up : (digits fours : ℕ) → 0 < fours → digits * 4 ^ fours ≡ digits * 4 * 4 ^ (fours - 1)
two_up digits zero p = absurd (lt_irrefl 0 p)
two_up digits (suc fours) p =
    let e : suc fours - 1 ≡ fours = omega arith in
    rw (e, pow-succ' 4 fours) (sym (mul_assoc digits 4 (4 ^ fours)))

-- ---- `scale`
pub even_power : (digits power : ℕ) → power % 2 ≡ 0 → digits * 2 ^ power ≡ digits * 4 ^ (power / 2)
even_power digits power h =
    let k : 2 * (power / 2) ≡ power = omega arith in
    rw (four (power / 2), k)

pub odd_power : (digits power : ℕ) → power % 2 ≡ 1 → digits * 2 ^ power ≡ digits * 2 * 4 ^ (power / 2)
odd_power digits power h =
    let k : power ≡ suc (2 * (power / 2)) = omega arith in
    ap (λ (x : ℕ). digits * 2 ^ x) k
    ∙ ap (λ (x : ℕ). digits * x) (pow-succ' 2 (2 * (power / 2)))
    ∙ sym (mul_assoc digits 2 (2 ^ (2 * (power / 2))))
    ∙ ap (λ (x : ℕ). digits * 2 * x) (sym (four (power / 2)))

pub subnormal_units : (bits : ℕ) → bits < 2 ^ 52 → units_of_bits binary64 bits ≡ bits
unfolding units_of_bits units_of_fields
subnormal_units bits h =
    let z : bits / 2 ^ 52 ≡ 0 = omega arith in
    let y : bits % 2 ^ 52 ≡ bits = omega arith in
    rw (z, y)

fields_units : (field digits : ℕ) → 0 < field → units_of_fields binary64 field digits * 2 ^ 52 ≡ (digits + 2 ^ 52) * 2 ^ (field - 1 + 52)
unfolding units_of_fields
fields_units zero digits p = absurd (lt_irrefl 0 p)
fields_units (suc field) digits p =
    let e : suc field - 1 ≡ field = omega arith in
    rw (e, pow-add 2 field 52) (omega arith)

pub normal_units : (bits : ℕ) → 2 ^ 52 ≤ bits → units_of_bits binary64 bits * 2 ^ 52 ≡ (bits % 2 ^ 52 + 2 ^ 52) * 2 ^ (bits / 2 ^ 52 - 1 + 52)
unfolding units_of_bits
normal_units bits h = fields_units (bits / 2 ^ 52) (bits % 2 ^ 52) (omega arith)

-- ---- `root_bits`: 2 ^ 1074 is 2 ^ 52 * (2 ^ 52 * 4 ^ 485)
shared : (u a y k q : ℕ) → u * k ≡ a * y → u * (k * (k * q)) ≡ a * k * (y * q)
shared u a y k q e = sym (mul_assoc u k (k * q)) ∙ ap (λ (x : ℕ). x * (k * q)) e ∙ mul-mul-mul_comm a y k q

pub square_value : (u digits fours : ℕ) → u * 2 ^ 52 ≡ digits * 4 ^ fours → u * 2 ^ 1074 ≡ digits * 2 ^ 52 * 4 ^ (fours + 485)
square_value u digits fours e = shared u digits (4 ^ fours) (2 ^ 52) (4 ^ 485) e ∙ ap (λ (x : ℕ). digits * 2 ^ 52 * x) (sym (pow-add 4 fours 485))
