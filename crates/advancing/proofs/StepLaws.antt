-- A step from what its parts leave, and its lengths when they change hands.
-- Assumes nothing.
use mathlib.Core.Path.{◌≡◌, refl, ◌∙◌}
use mathlib.Core.List.{List}
use Prim.Native.Nat.{ℕ}
use lib.Ieee.{Float, binary64, div, neg, of_bits, of_fields, odd}
use Rattle.patterns.specs.Pattern.{rows_of}
use Rattle.vectors.specs.Vectors.{add_scaled, dot_to}
use Rattle.matrix.specs.Product.{mult_vec}
use Rattle.solvers.specs.Method.{Matrix, State, dot_all, product_of, moved, squared}
use Rattle.solvers.specs.Solvers.{epsilon}
use Rattle.advancing.specs.Steps.{Ready, Advanced}

-- the code's constant
pub epsilon_is : of_bits binary64 4372995238176751616 ≡ epsilon binary64
unfolding of_bits of_fields odd
epsilon_is = refl

pub advanced : (n : ℕ) (a : Matrix) (s : State) (q r x : List Float) (d square : Float)
    → q ≡ mult_vec binary64 n a.offsets a.columns a.values a.diagonal (of_bits binary64 0) (of_bits binary64 4607182418800017408) s.p s.q
    → d ≡ dot_to binary64 n s.p q (rows_of a.offsets) → x ≡ add_scaled binary64 (div binary64 s.rho d) s.p s.x
    → r ≡ add_scaled binary64 (neg (div binary64 s.rho d)) q s.r → square ≡ dot_to binary64 n r r (rows_of a.offsets)
    → Advanced binary64 n a (moved binary64 n a s) r x q square
unfolding moved product_of dot_all squared
advanced n a s q r x d square eq ed ex er es = record { of_r = cc; of_x = cc; of_q = eq; of_square = cc }

-- only the lengths count
pub ready_same : {n : ℕ} {a : Matrix} {r x q p : ℕ} (r' x' q' p' : ℕ) → Ready n a r x q p → r' ≡ r → x' ≡ x → q' ≡ q → p' ≡ p → Ready n a r' x' q' p'
ready_same r' x' q' p' d er ex eq ep =
    record { fits = d.fits; of_r = er ∙ d.of_r; of_x = ex ∙ d.of_x; of_q = eq ∙ d.of_q; of_p = ep ∙ d.of_p }
