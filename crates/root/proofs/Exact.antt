-- A root that the format holds is given exactly: an r with r² = x is the value nearest to the root of x.
-- Assumes nothing.
use mathlib.Core.Path.{◌≡◌, ap, ◌∙◌, subst}
use Prim.Native.Nat.{ℕ, ◌*◌, ◌<◌}
use native.Mathlib.Nat.{mul-lt-mul_of_pos_right}
use native.Mathlib.Omega.{arith}
use lib.Dec.{T}
use lib.Ieee.{Float, Format, fits}
use lib.Ieee.Positive.{num, den, positive, den_pos}
use Rattle.root.specs.Root.{sum_of, square_of_sum, Root}
use Rattle.root.proofs.Numbers.{square_lt}
use Rattle.root.proofs.Fractions.{lt→cross, positive_unsigned}

-- (r + r)² is 4x, over the denominators that a y brings in
double : (nr dr nx dx dy : ℕ) → nr * nr * dx ≡ nx * (dr * dr) → 2 * (nr * dy) * (2 * (nr * dy)) * dx ≡ 4 * nx * (dy * dr * (dy * dr))
double nr dr nx dx dy e =
    let a : 2 * (nr * dy) * (2 * (nr * dy)) * dx ≡ 4 * (nr * nr * dx) * (dy * dy) = omega arith in
    let b : 4 * (nx * (dr * dr)) * (dy * dy) ≡ 4 * nx * (dy * dr * (dy * dr)) = omega arith in
    a ∙ ap (λ (x : ℕ). 4 * x * (dy * dy)) e ∙ b

pub exact_root : (f : Format) (x r : Float) → T (fits f r) → T (positive r) → num r * num r * den x ≡ num x * (den r * den r) → Root f x r
exact_root f x r F P e = record {
  held = F;
  above_zero = P;
  lower = λ y fy uy h.
      let l = lt→cross y r uy (positive_unsigned r P) h in
      subst (λ (z : ℕ). square_of_sum x y r < z) (double (num r) (den r) (num x) (den x) (den y) e)
      (mul-lt-mul_of_pos_right (square_lt (sum_of y r) (2 * (num r * den y)) (omega arith)) (den_pos x));
  upper = λ y fy uy h.
      let l = lt→cross r y (positive_unsigned r P) uy h in
      subst (λ (z : ℕ). z < square_of_sum x y r) (double (num r) (den r) (num x) (den x) (den y) e)
      (mul-lt-mul_of_pos_right (square_lt (2 * (num r * den y)) (sum_of y r) (omega arith)) (den_pos x));
}
