-- Document 01's cases 1 to 6, computed from the definitions.
-- Assumes nothing.
use mathlib.Core.Path.{◌≡◌, refl}
use mathlib.Core.List.{[], ◌∷◌}
use mathlib.Core.Bool.{true, false}
use Prim.Native.Nat.{ℕ}
use lib.Dec.{leb}
use Rattle.base.specs.All.{all_to}
use Rattle.patterns.specs.Pattern.{absent_to, row_of}
use Rattle.walks.specs.Levels.{Pattern, level_below, level_of}
use Rattle.fill.specs.Fill.{stored, columns_from, fill_columns, start_of, split_at, listed}

-- pattern P
P : Pattern
unfolding stored absent_to row_of all_to
P = stored (0 ∷ 2 ∷ 4 ∷ 6 ∷ 7 ∷ 8 ∷ []) (2 ∷ 3 ∷ 2 ∷ 4 ∷ 0 ∷ 1 ∷ 0 ∷ 1 ∷ [])

case_1 : (listed (start_of P 0 5) 0 6 ≡ 0 ∷ 2 ∷ 4 ∷ 6 ∷ 7 ∷ 8 ∷ []) × (listed (split_at P 0 5) 0 5 ≡ 0 ∷ 2 ∷ 6 ∷ 7 ∷ 8 ∷ [])
unfolding P stored listed start_of split_at fill_columns columns_from level_of level_below
case_1 = (refl, refl)

case_2 : (listed (start_of P 1 5) 0 6 ≡ 0 ∷ 2 ∷ 4 ∷ 8 ∷ 10 ∷ 12 ∷ []) × (listed (split_at P 1 5) 0 5 ≡ 0 ∷ 2 ∷ 6 ∷ 10 ∷ 12 ∷ [])
unfolding P stored listed start_of split_at fill_columns columns_from level_of level_below
case_2 = (refl, refl)

case_3 : (listed (start_of P 2 5) 0 6 ≡ 0 ∷ 2 ∷ 4 ∷ 8 ∷ 11 ∷ 14 ∷ []) × (listed (split_at P 2 5) 0 5 ≡ 0 ∷ 2 ∷ 6 ∷ 10 ∷ 14 ∷ [])
    × (fill_columns P 2 5 5 ≡ 2 ∷ 3 ∷ 2 ∷ 4 ∷ 0 ∷ 1 ∷ 3 ∷ 4 ∷ 0 ∷ 2 ∷ 4 ∷ 1 ∷ 2 ∷ 3 ∷ [])
unfolding P stored listed start_of split_at fill_columns columns_from level_of level_below
case_3 = (refl, refl, refl)

case_4 : (leb (start_of P 2 5 5) 13 ≡ false) × (leb (start_of P 2 5 5) 14 ≡ true)
unfolding P stored start_of fill_columns columns_from level_of level_below
case_4 = (refl, refl)

-- n = 5, pairs 0-3, 0-1, 1-2, 2-4
Q : Pattern
unfolding stored absent_to row_of all_to
Q = stored (0 ∷ 2 ∷ 4 ∷ 6 ∷ 7 ∷ 8 ∷ []) (3 ∷ 1 ∷ 0 ∷ 2 ∷ 1 ∷ 4 ∷ 0 ∷ 2 ∷ [])

case_5 : (start_of Q 0 5 5 ≡ 8) × (start_of Q 1 5 5 ≡ 10) × (start_of Q 2 5 5 ≡ 12) × (start_of Q 3 5 5 ≡ 14)
unfolding Q stored start_of fill_columns columns_from level_of level_below
case_5 = (refl, refl, refl, refl)

case_6 : (k : ℕ) → (listed (start_of (stored (0 ∷ 0 ∷ []) []) k 1) 0 2 ≡ 0 ∷ 0 ∷ []) × (listed (split_at (stored (0 ∷ 0 ∷ []) []) k 1) 0 1 ≡ 0 ∷ [])
unfolding stored listed start_of split_at fill_columns columns_from level_of level_below
case_6 k = (refl, refl)
