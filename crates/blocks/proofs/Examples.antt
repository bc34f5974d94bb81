-- Worked examples computed from the definitions: the pivots of document 01's cases 8 and 9 as blocks, and what is said at the edges.
-- Assumes nothing.
use mathlib.Core.Path.{◌≡◌, refl}
use mathlib.Core.List.{[], ◌∷◌}
use mathlib.Core.Bool.{true, false}
use Prim.Native.Nat.{ℕ}
use lib.IntN.{pos, negsuc}
use lib.Ieee.{Float, nan, fin, binary32, binary64, add, sub, mul, div, neg, eq, of_bits, of_int, odd, round, units, span, climb, size, sum}
use Rattle.blocks.specs.Block.{plus_zero, product, applied, subtracted}
use Rattle.blocks.specs.Inverse.{one, inverse, singular}

-- the numbers k and -k
abbrev pub plus : ℕ → Float
plus k = of_int binary64 (pos k)

abbrev pub minus : ℕ → Float
minus k = neg (plus k)

-- the two constants of the definitions are +0 and 1, in both formats
pub zero_is : (plus_zero binary32 ≡ fin false 0 (pos 0)) × (plus_zero binary64 ≡ fin false 0 (pos 0))
unfolding of_bits
zero_is = (refl, refl)

pub one_is : (one binary32 ≡ fin false 1 (pos 0)) × (one binary64 ≡ fin false 1 (pos 0))
unfolding of_bits
one_is = (refl, refl)

-- case 8: the first pivot of the rows (4, 2), (2, 5) is 4, and its inverse 0.25; the second is 5 - 2 * (0.25 * 2), which is 4 again
pub case_8_pivots : (inverse binary64 1 (plus 4 ∷ []) ≡ fin false 1 (negsuc 1) ∷ [])
    × (subtracted binary64 1 (plus 5 ∷ []) (product binary64 1 (plus 2 ∷ []) (product binary64 1 (inverse binary64 1 (plus 4 ∷ [])) (plus 2 ∷ []))) ≡ plus 4 ∷ [])
unfolding add sub mul div neg of_bits of_int round units span climb size sum odd
case_8_pivots = (refl, refl)

-- case 9: the second pivot of the rows (1, 1), (1, 1) is 1 - 1 * 1, and can't be inverted; nor can the two rows as one block of N = 2
pub case_9_pivot : (singular binary64 1 (subtracted binary64 1 (plus 1 ∷ []) (product binary64 1 (plus 1 ∷ []) (plus 1 ∷ []))) ≡ true)
    × (singular binary64 2 (plus 1 ∷ plus 1 ∷ plus 1 ∷ plus 1 ∷ []) ≡ true)
unfolding add sub mul neg eq of_bits of_int round units span climb size sum odd
case_9_pivot = (refl, refl)

-- either zero is refused, a NaN is not
pub zeros_and_nan : (singular binary64 1 (fin false 0 (pos 0) ∷ []) ≡ true) × (singular binary64 1 (fin true 0 (pos 0) ∷ []) ≡ true) × (singular binary64 1 (nan ∷ []) ≡ false)
unfolding eq of_bits
zeros_and_nan = (refl, refl, refl)

-- a sum starts at +0: with -0 as its only term it is +0
pub sum_of_minus_zero : applied binary64 1 (fin true 0 (pos 0) ∷ []) (plus 1 ∷ []) ≡ fin false 0 (pos 0) ∷ []
unfolding add mul of_bits of_int round units span climb size sum odd
sum_of_minus_zero = refl

-- the rows (1, 2, 3), (0, 1, 4), (5, 6, 0), of determinant 1, stored by columns
pub inverse_of_nine : inverse binary64 3 (plus 1 ∷ plus 0 ∷ plus 5 ∷ plus 2 ∷ plus 1 ∷ plus 6 ∷ plus 3 ∷ plus 4 ∷ plus 0 ∷ [])
    ≡ minus 24 ∷ plus 20 ∷ minus 5 ∷ plus 18 ∷ minus 15 ∷ plus 4 ∷ plus 5 ∷ minus 4 ∷ plus 1 ∷ []
unfolding add sub mul div neg of_bits of_int round units span climb size sum odd
inverse_of_nine = refl
