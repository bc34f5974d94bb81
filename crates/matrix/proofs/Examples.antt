-- Small products computed from the definition: the order of the steps, and an old infinity under a beta of 0.
-- Assumes nothing.
use mathlib.Core.Path.{◌≡◌, refl}
use mathlib.Core.List.{[], ◌∷◌}
use mathlib.Core.Bool.{false}
use Prim.Native.Nat.{ℕ}
use lib.IntN.{pos}
use lib.Ieee.{Float, nan, inf, binary64, add, mul, of_bits, of_int, odd, round, units, span, climb, size, sum}
use Rattle.base.specs.Each.{each}
use Rattle.base.specs.Iterate.{steps, iterate}
use Rattle.blocks.specs.Lent.{put_at}
use Rattle.patterns.specs.Pattern.{row_of}
use Rattle.vectors.specs.Vectors.{scale_at, scaled_by}
use Rattle.matrix.specs.Product.{add_product, add_entry, add_entries, add_row, add_row_at, mult_row, mult_vec}

-- the number k
abbrev plus : ℕ → Float
plus k = of_int binary64 (pos k)

-- Two rows, (5, 2) and (3, 7), by (1, 10), tripled and added to twice (100, 200).
pub two_rows : mult_vec binary64 1 (0 ∷ 1 ∷ 2 ∷ []) (1 ∷ 0 ∷ []) (plus 2 ∷ plus 3 ∷ []) (plus 5 ∷ plus 7 ∷ []) (plus 2) (plus 3) (plus 1 ∷ plus 10 ∷ [])
    (plus 100 ∷ plus 200 ∷ []) ≡ plus 275 ∷ plus 619 ∷ []
unfolding mult_vec mult_row add_row_at add_row add_entries add_entry add_product put_at row_of scaled_by scale_at each iterate steps add mul of_bits of_int round units span climb size sum odd
two_rows = refl

-- An old infinity is multiplied by a beta of 0, and so is NaN.
pub old_infinity : mult_vec binary64 1 (0 ∷ 0 ∷ []) [] [] (plus 5 ∷ []) (plus 0) (plus 1) (plus 1 ∷ []) (inf false ∷ []) ≡ nan ∷ []
unfolding mult_vec mult_row add_row_at add_row add_entries add_entry add_product put_at row_of scaled_by scale_at each iterate steps add mul of_bits of_int round units span climb size sum odd
old_infinity = refl
