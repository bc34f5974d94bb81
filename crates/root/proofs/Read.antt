-- From `root_bits` to the root: what a pattern of bits is worth, and that the number of the bits r is the root of the number of the bits b.
-- For either format. Assumes nothing.
use mathlib.Core.Path.{◌≡◌, sym, ap, ◌∙◌, subst}
use mathlib.Core.Bool.{false, not, cond}
use Prim.Native.Nat.{ℕ, zero, suc, ◌+◌, ◌-◌, ◌*◌, ◌/◌, ◌%◌, ◌^◌, ◌≤◌, ◌<◌}
use native.Mathlib.Nat.{lt_irrefl, lt_trans, lt_of_lt_of_le, mod-eq_of_lt, div-lt_iff_lt-mul, mul-one, mul_comm, mul-pos, mul-lt-mul_of_pos_right, lt-suc_self}
use native.Mathlib.Omega.{arith}
use lib.Dec.{T, leb, eqb, not_T, eqb→eq}
use lib.Arith.{lt→nleb, digits_div, digits_mod}
use lib.Pow.{pow_pos}
use lib.Ieee.{Float, nan, inf, Format, prec, low, hid, ones, top, odd, of_fields, of_bits}
use lib.Ieee.Exact.{HasValue, odd_sign}
use lib.Ieee.Bits.{cond_no, is_false, of_bits-fits}
use lib.Ieee.Positive.{positive_of_value, value→cross}
use Rattle.root.specs.Integers.{units_of_fields, units_of_bits, infinity_bits, RootBits}
use Rattle.root.specs.Root.{Root}
use Rattle.root.proofs.Fractions.{near_root}

fields_value : (f : Format) (x t : ℕ) → x < ones f → HasValue (of_fields f false x t) false (units_of_fields f x t) (2 ^ low f)
unfolding of_fields units_of_fields
fields_value f zero t h = subst (λ (z : ℕ). HasValue (odd (prec f) false t 0 (low f)) false z (2 ^ low f)) (mul-one t) (odd_sign (prec f) false t 0 (low f))
fields_value f (suc x) t h =
    let finite : T (not (eqb (suc x) (ones f))) = not_T (eqb (suc x) (ones f)) (λ u. lt_irrefl (ones f) (subst (λ (z : ℕ). z < ones f) (eqb→eq (suc x) (ones f) u) h)) in
    let value = odd (prec f) false (hid f + t) x (low f) in
    subst (λ (v : Float). HasValue v false ((hid f + t) * 2 ^ x) (2 ^ low f)) (sym (cond_no (eqb (suc x) (ones f)) (cond (eqb t 0) (inf false) nan) value finite))
    (odd_sign (prec f) false (hid f + t) x (low f))

hid_pos : (f : Format) → 0 < hid f
hid_pos f = pow_pos (prec f - 1)

below_sign : (f : Format) → infinity_bits f < top f
below_sign f = subst (λ (z : ℕ). infinity_bits f < z) (mul_comm (suc (ones f)) (hid f)) (mul-lt-mul_of_pos_right (lt-suc_self (ones f)) (hid_pos f))

bits_value : (f : Format) (b : ℕ) → b < infinity_bits f → HasValue (of_bits f b) false (units_of_bits f b) (2 ^ low f)
unfolding of_bits units_of_bits
bits_value f b h =
    let t : b < top f = lt_trans h (below_sign f) in
    let z : leb (top f) b ≡ false = is_false (leb (top f) b) (lt→nleb (top f) b t) in
    let y : b % top f ≡ b = mod-eq_of_lt t in
    rw (z, y) (fields_value f (b / hid f) (b % hid f) ((div-lt_iff_lt-mul (hid_pos f)).1 h))

-- bits that are made of an exponent and digits with the leading one
made_units : (f : Format) (w q : ℕ) → hid f ≤ q → q < 2 * hid f → units_of_bits f (w * hid f + q) ≡ q * 2 ^ w
unfolding units_of_bits units_of_fields
made_units f w q a b =
    let t : q - hid f < hid f = omega arith in
    let e : w * hid f + q ≡ suc w * hid f + (q - hid f) = omega arith in
    let k : hid f + (q - hid f) ≡ q = omega arith in
    rw (e, digits_div (suc w) t, digits_mod (suc w) t) (ap (λ (x : ℕ). x * 2 ^ w) k)

pub bits_root : (f : Format) (b r : ℕ) → b < infinity_bits f → RootBits f b r → Root f (of_bits f b) (of_bits f r)
bits_root f b r l h =
    let w = h.exponent in
    let q = h.digits in
    let u : units_of_bits f r ≡ q * 2 ^ w = ap (units_of_bits f) h.made ∙ made_units f w q h.least h.most in
    let v : HasValue (of_bits f r) false (q * 2 ^ w) (2 ^ low f) = subst (λ (x : ℕ). HasValue (of_bits f r) false x (2 ^ low f)) u (bits_value f r h.finite) in
    near_root f (of_bits f b) (of_bits f r) (units_of_bits f b) h.square q w
    (of_bits-fits f r)
    (positive_of_value (of_bits f r) (q * 2 ^ w) (2 ^ low f) v (mul-pos (lt_of_lt_of_le (hid_pos f) h.least) (pow_pos w)))
    (value→cross (of_bits f b) (units_of_bits f b) (2 ^ low f) (bits_value f b l))
    (value→cross (of_bits f r) (q * 2 ^ w) (2 ^ low f) v)
    h.value h.near h.least h.wide
