-- Document 01's pattern P with its rows in another order, and a pattern without entries, computed from the definitions.
-- Assumes nothing.
use mathlib.Core.Path.{◌≡◌, refl}
use mathlib.Core.List.{List, [], ◌∷◌}
use Prim.Native.Nat.{ℕ}
use Rattle.base.specs.First.{first_in}
use Rattle.base.specs.All.{all_to}
use Rattle.answers.specs.Checks.{first_of}
use Rattle.patterns.specs.Pattern.{row_of, split_of, first_is_zero, never_fall, last_is_count, all_below, absent_to, once, all_once, own_absent, all_own_absent, valid_offsets, valid_entries, valid_pattern}
use Rattle.rows.specs.Sort.{insert, sort_of}
use Rattle.fill.specs.Fill.{joined, listed}
use Rattle.ilu0.specs.Ilu0.{sorted_rows, sorted_splits, ilu0_checks}

-- rows 3 2, 4 2, 1 0, 0, 1
starts : List ℕ
starts = 0 ∷ 2 ∷ 4 ∷ 6 ∷ 7 ∷ 8 ∷ []

entries : List ℕ
entries = 3 ∷ 2 ∷ 4 ∷ 2 ∷ 1 ∷ 0 ∷ 0 ∷ 1 ∷ []

-- case 1, sorted
case_1 : (sorted_rows starts entries 5 ≡ 2 ∷ 3 ∷ 2 ∷ 4 ∷ 0 ∷ 1 ∷ 0 ∷ 1 ∷ []) × (sorted_splits starts entries ≡ 0 ∷ 2 ∷ 6 ∷ 7 ∷ 8 ∷ [])
unfolding starts entries sorted_rows sorted_splits split_of row_of first_in joined listed sort_of insert
case_1 = (refl, refl)

-- room for 8 entries, and for 7
room : (first_of (ilu0_checks starts entries 6 8 5) ≡ 0) × (first_of (ilu0_checks starts entries 6 7 5) ≡ 4)
unfolding starts entries row_of first_is_zero never_fall last_is_count all_below absent_to once all_once own_absent all_own_absent valid_offsets valid_entries valid_pattern all_to
room = (refl, refl)

-- n = 1, no entries
one_row_lem : (sorted_rows (0 ∷ 0 ∷ []) [] 1 ≡ []) × (sorted_splits (0 ∷ 0 ∷ []) [] ≡ 0 ∷ [])
unfolding sorted_rows sorted_splits split_of row_of first_in joined listed sort_of
one_row_lem = (refl, refl)
