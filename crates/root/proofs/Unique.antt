-- Two values of a format that are each the nearest to the root of x are equal: of two different ones each would be the nearer.
-- Assumes nothing.
use mathlib.Core.Path.{◌≡◌, sym, ap, ◌∙◌, subst}
use mathlib.Core.Logic.{inl, inr}
use mathlib.Core.Bool.{true, false}
use Prim.Native.Nat.{ℕ, ◌+◌, ◌-◌, ◌*◌, ◌/◌, ◌^◌, ◌<◌}
use native.Mathlib.Nat.{eq-or-lt_of_le, lt_irrefl, lt_trans, add_comm, mul_comm, mul_right_comm}
use lib.Dec.{T}
use lib.Ieee.{Float, nan, inf, fin, Format, prec, low, up, down, size, fits, hid, to_bits, of_bits}
use lib.Ieee.Fits.{down_pos}
use lib.Ieee.Nearest.{div_same}
use lib.Ieee.Bits.{of_bits-to_bits}
use lib.Ieee.Positive.{num, den, positive}
use Rattle.root.specs.Root.{square_of_sum, four_times, Root}
use Rattle.root.proofs.Numbers.{lt_or_le}
use Rattle.root.proofs.Fractions.{cross→lt, positive_unsigned}

-- ---- two values that fit and are the same fraction are the same value
cross_by : (a b c d l : ℕ) → a * d ≡ c * b → a * l * d ≡ c * l * b
cross_by a b c d l e = mul_right_comm a l d ∙ ap (λ (x : ℕ). x * l) e ∙ mul_right_comm c b l

same_bits : (f : Format) (r s : Float) → T (positive r) → T (positive s) → num r * den s ≡ num s * den r → to_bits f r ≡ to_bits f s
unfolding to_bits
same_bits f nan s p q e = absurd p
same_bits f (inf t) s p q e = absurd p
same_bits f (fin true m c) s p q e = absurd p
same_bits f (fin false m c) nan p q e = absurd q
same_bits f (fin false m c) (inf t) p q e = absurd q
same_bits f (fin false m c) (fin true n d) p q e = absurd q
same_bits f (fin false m c) (fin false n d) p q e =
    ap (λ (z : ℕ). 0 + (size z - prec f) * hid f + z / 2 ^ (size z - prec f))
    (div_same (m * up c * 2 ^ low f) (down c) (n * up d * 2 ^ low f) (down d) (down_pos c) (down_pos d) (cross_by (m * up c) (down c) (n * up d) (down d) (2 ^ low f) e))

same_value : (f : Format) (r s : Float) → T (fits f r) → T (fits f s) → T (positive r) → T (positive s) → num r * den s ≡ num s * den r → r ≡ s
same_value f r s F G p q e = sym (of_bits-to_bits f r F) ∙ ap (of_bits f) (same_bits f r s p q e) ∙ of_bits-to_bits f s G

-- ---- of two roots the lower says that their middle is above the root of x, and the higher that it is below
square_of_sum_sym : (x y r : Float) → square_of_sum x y r ≡ square_of_sum x r y
square_of_sum_sym x y r = ap (λ (t : ℕ). t * t * den x) (add_comm (num y * den r) (num r * den y))

four_times_sym : (x y r : Float) → four_times x y r ≡ four_times x r y
four_times_sym x y r = ap (λ (t : ℕ). 4 * num x * (t * t)) (mul_comm (den y) (den r))

never_below : (f : Format) (x r s : Float) → Root f x r → Root f x s → num r * den s < num s * den r → ⊥
never_below f x r s a b h =
    let l = cross→lt r s a.above_zero b.above_zero h in
    let up = a.upper s b.held (positive_unsigned s b.above_zero) l in
    let lo = b.lower r a.held (positive_unsigned r a.above_zero) l in
    lt_irrefl (four_times x s r) (lt_trans up (subst (λ (z : ℕ). z < four_times x s r) (square_of_sum_sym x r s) (subst (λ (z : ℕ). square_of_sum x r s < z) (four_times_sym x r s) lo)))

pub root_unique : (f : Format) (x r s : Float) → Root f x r → Root f x s → r ≡ s
root_unique f x r s a b = elim (lt_or_le (num r * den s) (num s * den r)) [
  | inl h ↦ absurd (never_below f x r s a b h)
  | inr h ↦ elim (eq-or-lt_of_le h) [
    | inl e ↦ same_value f r s a.held b.held a.above_zero b.above_zero (sym e)
    | inr g ↦ absurd (never_below f x s r b a g)
  ]
]
