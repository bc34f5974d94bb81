-- Worked examples computed from the definitions: document 01's cases 8 and 9, three rows at N = 1, and two rows of blocks at N = 2 and N = 3.
-- Assumes nothing.
use mathlib.Core.Path.{◌≡◌, refl}
use mathlib.Core.List.{[], ◌∷◌}
use mathlib.Core.Bool.{false}
use mathlib.Core.Option.{none, some}
use Prim.Native.Nat.{ℕ}
use lib.IntN.{negsuc}
use lib.Ieee.{Float, fin, binary64, add, sub, mul, div, neg, eq, of_bits, of_int, odd, round, units, span, climb, size, sum}
use Rattle.base.specs.Iterate.{steps, iterate}
use Rattle.base.specs.First.{first_in}
use Rattle.blocks.specs.Lent.{put_at}
use Rattle.blocks.proofs.Examples.{plus, minus}
use Rattle.patterns.specs.Pattern.{row_of}
use Rattle.rows.specs.Lookup.{place_in}
use Rattle.factors.specs.Factor.{FactorPattern, FactorValues, less_block, take_from, take_product, take_pivot, reduce_row, invert_pivot, multiply_entry, finish_row, decompose_from, decompose}
use Rattle.factors.specs.Solve.{less_entry, less_entries, forward_row, backward_row, solve}

-- two rows that name each other
abbrev pair : FactorPattern
pair = record { offsets = 0 ∷ 1 ∷ 2 ∷ []; columns = 1 ∷ 0 ∷ []; splits = 0 ∷ 2 ∷ [] }

-- 0.25 and 0.5
abbrev quarter : Float
quarter = fin false 1 (negsuc 1)

abbrev half : Float
half = fin false 1 (negsuc 0)

-- case 8: the rows (4, 2), (2, 5)
abbrev rows_8 : FactorValues
rows_8 = record { diagonal = plus 4 ∷ plus 5 ∷ []; values = plus 2 ∷ plus 2 ∷ [] }

-- factor diagonal 0.25, 0.25, upper 0.5, lower 2
abbrev factor_8 : FactorValues
factor_8 = record { diagonal = quarter ∷ quarter ∷ []; values = half ∷ plus 2 ∷ [] }

case_8 : decompose binary64 1 pair rows_8 ≡ record { left = factor_8; stopped = none }
unfolding decompose decompose_from reduce_row take_pivot take_product take_from less_block finish_row invert_pivot multiply_entry iterate steps put_at row_of place_in first_in add sub mul div neg eq of_bits of_int round units span climb size sum odd
case_8 = refl

-- right side (8, 12) solves to (1, 2)
case_8_solve : solve binary64 1 pair factor_8 (plus 8 ∷ plus 12 ∷ []) ≡ plus 1 ∷ plus 2 ∷ []
unfolding solve forward_row backward_row less_entries less_entry iterate steps put_at add sub mul neg of_bits of_int round units span climb size sum odd
case_8_solve = refl

-- case 9: rows (1, 1), (1, 1) are singular at row 1, and the diagonal is left as 1, 0
case_9 : decompose binary64 1 pair (record { diagonal = plus 1 ∷ plus 1 ∷ []; values = plus 1 ∷ plus 1 ∷ [] })
    ≡ record { left = record { diagonal = plus 1 ∷ plus 0 ∷ []; values = plus 1 ∷ plus 1 ∷ [] }; stopped = some 1 }
unfolding decompose decompose_from reduce_row take_pivot take_product take_from less_block finish_row invert_pivot multiply_entry iterate steps put_at row_of place_in first_in add sub mul div neg eq of_bits of_int round units span climb size sum odd
case_9 = refl

-- three rows that all name each other: (2, 4, 6), (2, 5, 8), (3, 10, 18). Row 2 takes its pivots in order: the second is 10 - 3 * 2 = 4 by then
three_rows : decompose binary64 1 (record { offsets = 0 ∷ 2 ∷ 4 ∷ 6 ∷ []; columns = 1 ∷ 2 ∷ 0 ∷ 2 ∷ 0 ∷ 1 ∷ []; splits = 0 ∷ 3 ∷ 6 ∷ [] })
    (record { diagonal = plus 2 ∷ plus 5 ∷ plus 18 ∷ []; values = plus 4 ∷ plus 6 ∷ plus 2 ∷ plus 8 ∷ plus 3 ∷ plus 10 ∷ [] })
    ≡ record {
      left = record { diagonal = half ∷ plus 1 ∷ plus 1 ∷ []; values = plus 2 ∷ plus 3 ∷ plus 2 ∷ plus 2 ∷ plus 3 ∷ plus 4 ∷ [] };
      stopped = none;
    }
unfolding decompose decompose_from reduce_row take_pivot take_product take_from less_block finish_row invert_pivot multiply_entry iterate steps put_at row_of place_in first_in add sub mul div neg eq of_bits of_int round units span climb size sum odd
three_rows = refl

-- (1, 2, 3), (1, 3, .), (2, ., 7): the products at the absent (1, 2) and (2, 1) are dropped
two_dropped : decompose binary64 1 (record { offsets = 0 ∷ 2 ∷ 3 ∷ 4 ∷ []; columns = 1 ∷ 2 ∷ 0 ∷ 0 ∷ []; splits = 0 ∷ 3 ∷ 4 ∷ [] })
    (record { diagonal = plus 1 ∷ plus 3 ∷ plus 7 ∷ []; values = plus 2 ∷ plus 3 ∷ plus 1 ∷ plus 2 ∷ [] })
    ≡ record {
      left = record { diagonal = plus 1 ∷ plus 1 ∷ plus 1 ∷ []; values = plus 2 ∷ plus 3 ∷ plus 1 ∷ plus 2 ∷ [] };
      stopped = none;
    }
unfolding decompose decompose_from reduce_row take_pivot take_product take_from less_block finish_row invert_pivot multiply_entry iterate steps put_at row_of place_in first_in add sub mul div neg eq of_bits of_int round units span climb size sum odd
two_dropped = refl

-- k halves, for odd k
abbrev halves : ℕ → Float
halves k = fin false k (negsuc 0)

-- N = 2: the rows (2, 1, 1, 0), (1, 1, 1, 1), (1, 2, 3, 4), (0, 1, 2, 5) as two rows of blocks, each stored by columns
abbrev rows_2 : FactorValues
rows_2 =
    record {
      diagonal = plus 2 ∷ plus 1 ∷ plus 1 ∷ plus 1 ∷ plus 3 ∷ plus 2 ∷ plus 4 ∷ plus 5 ∷ [];
      values = plus 1 ∷ plus 1 ∷ plus 0 ∷ plus 1 ∷ plus 1 ∷ plus 0 ∷ plus 2 ∷ plus 1 ∷ [];
    }

-- the pivots are (2, 1), (1, 1) of determinant 1, and (1, 1), (1, 3) of determinant 2
abbrev factor_2 : FactorValues
factor_2 =
    record {
      diagonal = plus 1 ∷ minus 1 ∷ minus 1 ∷ plus 2 ∷ halves 3 ∷ neg half ∷ neg half ∷ half ∷ [];
      values = plus 0 ∷ plus 1 ∷ minus 1 ∷ plus 2 ∷ plus 1 ∷ plus 0 ∷ plus 2 ∷ plus 1 ∷ [];
    }

two_by_two : decompose binary64 2 pair rows_2 ≡ record { left = factor_2; stopped = none }
unfolding decompose decompose_from reduce_row take_pivot take_product take_from less_block finish_row invert_pivot multiply_entry iterate steps put_at row_of place_in first_in add sub mul div neg eq of_bits of_int round units span climb size sum odd
two_by_two = refl

two_by_two_solve : solve binary64 2 pair factor_2 (plus 7 ∷ plus 10 ∷ plus 30 ∷ plus 28 ∷ []) ≡ plus 1 ∷ plus 2 ∷ plus 3 ∷ plus 4 ∷ []
unfolding solve forward_row backward_row less_entries less_entry iterate steps put_at add sub mul neg of_bits of_int round units span climb size sum odd
two_by_two_solve = refl

-- with 3 in the place of 5 the second pivot is (1, 1), (1, 1): row 1 stops, reduced and no more
two_by_two_stops : decompose binary64 2 pair (record { diagonal = plus 2 ∷ plus 1 ∷ plus 1 ∷ plus 1 ∷ plus 3 ∷ plus 2 ∷ plus 4 ∷ plus 3 ∷ []; values = rows_2.values })
    ≡ record {
      left =
          record { diagonal = plus 1 ∷ minus 1 ∷ minus 1 ∷ plus 2 ∷ plus 1 ∷ plus 1 ∷ plus 1 ∷ plus 1 ∷ []; values = factor_2.values };
      stopped = some 1;
    }
unfolding decompose decompose_from reduce_row take_pivot take_product take_from less_block finish_row invert_pivot multiply_entry iterate steps put_at row_of place_in first_in add sub mul div neg eq of_bits of_int round units span climb size sum odd
two_by_two_stops = refl

-- N = 3: the rows (1, 2, 3, 1, 0, 0), (0, 1, 4, 1, 1, 0), (5, 6, 0, 0, 1, 1), (1, 1, 0, 0, 5, 2), (0, 1, 0, 5, -18, -3), (0, 0, 1, 0, 6, 3)
abbrev rows_3 : FactorValues
rows_3 =
    record {
      diagonal =
          plus 1 ∷ plus 0 ∷ plus 5 ∷ plus 2 ∷ plus 1 ∷ plus 6 ∷ plus 3 ∷ plus 4 ∷ plus 0
          ∷ plus 0 ∷ plus 5 ∷ plus 0 ∷ plus 5 ∷ minus 18 ∷ plus 6 ∷ plus 2 ∷ minus 3 ∷ plus 3 ∷ [];
      values =
          plus 1 ∷ plus 1 ∷ plus 0 ∷ plus 0 ∷ plus 1 ∷ plus 1 ∷ plus 0 ∷ plus 0 ∷ plus 1
          ∷ plus 1 ∷ plus 0 ∷ plus 0 ∷ plus 1 ∷ plus 1 ∷ plus 0 ∷ plus 0 ∷ plus 0 ∷ plus 1 ∷ [];
    }

-- both pivots have determinant 1
abbrev factor_3 : FactorValues
factor_3 =
    record {
      diagonal =
          minus 24 ∷ plus 20 ∷ minus 5 ∷ plus 18 ∷ minus 15 ∷ plus 4 ∷ plus 5 ∷ minus 4 ∷ plus 1
          ∷ plus 1 ∷ plus 1 ∷ minus 1 ∷ minus 1 ∷ plus 1 ∷ plus 0 ∷ plus 0 ∷ minus 1 ∷ plus 1 ∷ [];
      values =
          minus 6 ∷ plus 5 ∷ minus 1 ∷ plus 23 ∷ minus 19 ∷ plus 5 ∷ plus 5 ∷ minus 4 ∷ plus 1
          ∷ plus 1 ∷ plus 0 ∷ plus 0 ∷ plus 1 ∷ plus 1 ∷ plus 0 ∷ plus 0 ∷ plus 0 ∷ plus 1 ∷ [];
    }

three_by_three : decompose binary64 3 pair rows_3 ≡ record { left = factor_3; stopped = none }
unfolding decompose decompose_from reduce_row take_pivot take_product take_from less_block finish_row invert_pivot multiply_entry iterate steps put_at row_of place_in first_in add sub mul div neg eq of_bits of_int round units span climb size sum odd
three_by_three = refl

three_by_three_solve : solve binary64 3 pair factor_3 (plus 15 ∷ plus 16 ∷ plus 20 ∷ plus 12 ∷ minus 17 ∷ plus 15 ∷ [])
    ≡ plus 1 ∷ plus 2 ∷ plus 3 ∷ plus 1 ∷ plus 1 ∷ plus 2 ∷ []
unfolding solve forward_row backward_row less_entries less_entry iterate steps put_at add sub mul neg of_bits of_int round units span climb size sum odd
three_by_three_solve = refl
