-- Worked examples computed from the definitions: the order of the dot product's sums, flags below 0, products with infinities and zeros, and refusals.
-- Assumes nothing.
use mathlib.Core.Path.{◌≡◌, refl}
use mathlib.Core.Bool.{true, false}
use mathlib.Core.List.{List, [], ◌∷◌}
use lib.IntN.{pos, negsuc}
use lib.Ieee.{Float, nan, inf, fin, binary64, add, mul, of_bits, odd, round, units, span, climb, size, sum}
use Rattle.base.specs.Each.{each}
use Rattle.answers.specs.Checks.{first_of}
use Rattle.answers.specs.Limits.{vector_checks}
use Rattle.vectors.specs.Checks.{pair_checks, long_flag_checks}
use Rattle.vectors.specs.Vectors.{zeroed, zero_at, copied, copy_at, add_scaled, add_scaled_at, scale_add, scale_add_at, scaled_by, scale_at, fixed, fix_at, dot_to}

abbrev plus_zero : Float
plus_zero = fin false 0 (pos 0)

abbrev minus_zero : Float
minus_zero = fin true 0 (pos 0)

abbrev one : Float
one = fin false 1 (pos 0)

abbrev two : Float
two = fin false 1 (pos 1)

abbrev three : Float
three = fin false 3 (pos 0)

-- the rows (1, 1), (2^-26, 2^-26)
abbrev pub rows : List Float
rows = one ∷ one ∷ fin false 1 (negsuc 25) ∷ fin false 1 (negsuc 25) ∷ []

-- each row's own sum first: 2 + 2^-51, which is (2^52 + 1) * 2^-51
pub sum_of_rows : dot_to binary64 2 rows rows 2 ≡ fin false 4503599627370497 (negsuc 50)
unfolding dot_to add mul of_bits round units span climb size sum odd
sum_of_rows = refl

-- one running sum over the same four values, as four rows of N = 1: 2
pub running_sum : dot_to binary64 1 rows rows 4 ≡ two
unfolding dot_to add mul of_bits round units span climb size sum odd
running_sum = refl

-- a sum starts at +0: that of no rows is +0, and that of -0 alone too
pub sum_starts : (dot_to binary64 3 [] [] 0 ≡ plus_zero) × (dot_to binary64 1 (minus_zero ∷ []) (one ∷ []) 1 ≡ plus_zero)
unfolding dot_to add mul of_bits round units span climb size sum odd
sum_starts = (refl, refl)

-- a flag of -1 fixes, as 7 does, also a NaN; a flag of 0 leaves a value as it is, -0 too
pub flags_fix : fixed binary64 (negsuc 0 ∷ pos 0 ∷ pos 7 ∷ pos 0 ∷ []) (three ∷ three ∷ nan ∷ minus_zero ∷ []) ≡ plus_zero ∷ three ∷ plus_zero ∷ minus_zero ∷ []
unfolding fixed fix_at each of_bits
flags_fix = refl

-- 1 + 3 * 2 is 7, and 3 + 1 * 2 is 5: which of the two is scaled
pub scaled_operand : (add_scaled binary64 two (three ∷ []) (one ∷ []) ≡ fin false 7 (pos 0) ∷ []) × (scale_add binary64 two (three ∷ []) (one ∷ []) ≡ fin false 5 (pos 0) ∷ [])
unfolding add_scaled add_scaled_at scale_add scale_add_at each add mul round units span climb size sum odd
scaled_operand = (refl, refl)

-- nothing is skipped where a factor is 0: an infinity gives NaN, and a negative value gives -0
pub zero_factor : (scale_add binary64 plus_zero (one ∷ []) (inf false ∷ []) ≡ nan ∷ []) × (add_scaled binary64 plus_zero (inf true ∷ []) (one ∷ []) ≡ nan ∷ [])
    × (scaled_by binary64 plus_zero (inf false ∷ fin true 1 (pos 0) ∷ []) ≡ nan ∷ minus_zero ∷ [])
unfolding add_scaled add_scaled_at scale_add scale_add_at scaled_by scale_at each add mul round units span climb size sum odd
zero_factor = (refl, refl, refl)

-- +0 is written over anything, and a copy has the signs of zeros
pub plain_words : (zeroed binary64 (nan ∷ minus_zero ∷ []) ≡ plus_zero ∷ plus_zero ∷ []) × (copied (minus_zero ∷ nan ∷ []) (one ∷ one ∷ []) ≡ minus_zero ∷ nan ∷ [])
unfolding zeroed zero_at copied copy_at each of_bits
plain_words = (refl, refl)

-- n is 1 to 4,096; then the lengths: 2 rows of N = 2 have 4 values, and of flags 5 are refused where they may not be longer
pub refusals : (first_of (vector_checks 0 3 0) ≡ 1) × (first_of (vector_checks 4096 3 12288) ≡ 0) × (first_of (pair_checks 4097 2 8194 8194) ≡ 1)
    × (first_of (pair_checks 2 2 4 4) ≡ 0) × (first_of (pair_checks 2 2 4 5) ≡ 2) × (first_of (long_flag_checks 2 2 4 5) ≡ 0) × (first_of (long_flag_checks 2 2 4 3) ≡ 2)
refusals = (refl, refl, refl, refl, refl, refl, refl)
