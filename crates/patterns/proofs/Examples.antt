-- Small patterns computed from the definitions: document 01's pattern P, and what each rule refuses.
-- Assumes nothing.
use mathlib.Core.Path.{◌≡◌, refl}
use mathlib.Core.List.{List, [], ◌∷◌}
use mathlib.Core.Bool.{true, false}
use Prim.Native.Nat.{ℕ}
use Rattle.answers.specs.Checks.{first_of}
use Rattle.base.specs.All.{all_to}
use Rattle.base.specs.First.{first_in}
use Rattle.patterns.specs.Pattern.{row_of, first_is_zero, never_fall, last_is_count, all_below, absent_to, once, all_once, own_absent, all_own_absent, valid_offsets, valid_entries, valid_pattern, rises, all_rise, split_of, true_splits, valid_splits}
use Rattle.patterns.specs.Checks.{too_large, pattern_checks, entries_checks, factor_checks}

-- pattern P: n = 5, pairs 0-2, 0-3, 1-2, 1-4, both ways
abbrev p_offsets : List ℕ
p_offsets = 0 ∷ 2 ∷ 4 ∷ 6 ∷ 7 ∷ 8 ∷ []

abbrev p_columns : List ℕ
p_columns = 2 ∷ 3 ∷ 2 ∷ 4 ∷ 0 ∷ 1 ∷ 0 ∷ 1 ∷ []

abbrev p_splits : List ℕ
p_splits = 0 ∷ 2 ∷ 6 ∷ 7 ∷ 8 ∷ []

pub p_is_valid : (first_of (pattern_checks p_offsets p_columns) ≡ 0) × (first_of (factor_checks p_offsets p_columns p_splits) ≡ 0)
unfolding valid_pattern valid_entries valid_offsets first_is_zero never_fall last_is_count all_below all_once once all_own_absent own_absent absent_to row_of valid_splits all_rise rises true_splits split_of all_to first_in
p_is_valid = (refl, refl)

-- a split that is a place too early, and splits that are one too few
pub wrong_split : (first_of (factor_checks p_offsets p_columns (0 ∷ 2 ∷ 5 ∷ 7 ∷ 8 ∷ [])) ≡ 11) × (first_of (factor_checks p_offsets p_columns (0 ∷ 2 ∷ 6 ∷ 7 ∷ [])) ≡ 2)
unfolding valid_pattern valid_entries valid_offsets first_is_zero never_fall last_is_count all_below all_once once all_own_absent own_absent absent_to row_of valid_splits all_rise rises true_splits split_of all_to first_in
wrong_split = (refl, refl)

-- an unsorted row is valid, and not a factor's
pub unsorted_row : (first_of (pattern_checks p_offsets (3 ∷ 2 ∷ 2 ∷ 4 ∷ 0 ∷ 1 ∷ 0 ∷ 1 ∷ [])) ≡ 0)
    × (first_of (factor_checks p_offsets (3 ∷ 2 ∷ 2 ∷ 4 ∷ 0 ∷ 1 ∷ 0 ∷ 1 ∷ []) p_splits) ≡ 11)
unfolding valid_pattern valid_entries valid_offsets first_is_zero never_fall last_is_count all_below all_once once all_own_absent own_absent absent_to row_of valid_splits all_rise rises true_splits split_of all_to first_in
unsorted_row = (refl, refl)

-- row 1 has its own column, which may stand among entries alone
pub own_column : (first_of (pattern_checks p_offsets (2 ∷ 3 ∷ 1 ∷ 4 ∷ 0 ∷ 1 ∷ 0 ∷ 1 ∷ [])) ≡ 3)
    × (first_of (entries_checks p_offsets (2 ∷ 3 ∷ 1 ∷ 4 ∷ 0 ∷ 1 ∷ 0 ∷ 1 ∷ [])) ≡ 0)
unfolding valid_pattern valid_entries valid_offsets first_is_zero never_fall last_is_count all_below all_once once all_own_absent own_absent absent_to row_of all_to
own_column = (refl, refl)

-- a column that stands twice in its row, with another between
pub column_twice : (first_of (pattern_checks (0 ∷ 3 ∷ 3 ∷ 3 ∷ []) (1 ∷ 2 ∷ 1 ∷ [])) ≡ 3) × (first_of (entries_checks (0 ∷ 3 ∷ 3 ∷ 3 ∷ []) (1 ∷ 2 ∷ 1 ∷ [])) ≡ 3)
unfolding valid_pattern valid_entries valid_offsets first_is_zero never_fall last_is_count all_below all_once once all_own_absent own_absent absent_to row_of all_to
column_twice = (refl, refl)

-- a column that is n
pub column_too_large : first_of (pattern_checks (0 ∷ 1 ∷ 2 ∷ []) (1 ∷ 2 ∷ [])) ≡ 3
unfolding valid_pattern valid_entries valid_offsets first_is_zero never_fall last_is_count all_below all_once once all_own_absent own_absent absent_to row_of all_to
column_too_large = refl

-- offsets: a first one that isn't 0, one that falls in the middle, a last one that isn't the number of columns
pub wrong_offsets : (first_of (pattern_checks (1 ∷ 1 ∷ 2 ∷ []) (1 ∷ 0 ∷ [])) ≡ 3)
    × (first_of (pattern_checks (0 ∷ 2 ∷ 1 ∷ 2 ∷ []) (1 ∷ 2 ∷ [])) ≡ 3)
    × (first_of (pattern_checks (0 ∷ 1 ∷ 1 ∷ []) (1 ∷ 0 ∷ [])) ≡ 3)
unfolding valid_pattern valid_entries valid_offsets first_is_zero never_fall last_is_count all_below all_once once all_own_absent own_absent absent_to row_of all_to
wrong_offsets = (refl, refl, refl)

-- n = 1 without entries is valid; without an offset, or with one alone, n is 0
pub smallest : (first_of (factor_checks (0 ∷ 0 ∷ []) [] (0 ∷ [])) ≡ 0) × (first_of (pattern_checks [] []) ≡ 1) × (first_of (pattern_checks (0 ∷ []) []) ≡ 1)
unfolding valid_pattern valid_entries valid_offsets first_is_zero never_fall last_is_count all_below all_once once all_own_absent own_absent absent_to row_of valid_splits all_rise rises true_splits split_of all_to first_in
smallest = (refl, refl, refl)

-- the limits: 4,096 rows and 65,535 columns
pub limits : (too_large 4097 65535 ≡ false) × (too_large 4098 0 ≡ true) × (too_large 2 65536 ≡ true)
limits = (refl, refl, refl)
