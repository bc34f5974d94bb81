-- Worked examples computed from the definitions, whatever the values are: which block goes where, which become +0, and what is refused.
-- Assumes nothing.
use mathlib.Core.Path.{◌≡◌, refl}
use mathlib.Core.List.{List, [], ◌∷◌}
use mathlib.Core.Bool.{false}
use Prim.Native.Nat.{ℕ}
use lib.IntN.{pos}
use lib.Ieee.{Float, fin, binary64, of_bits}
use Rattle.base.specs.All.{all_to}
use Rattle.base.specs.First.{first_in}
use Rattle.answers.specs.Checks.{first_of}
use Rattle.patterns.specs.Pattern.{row_of, first_is_zero, never_fall, last_is_count, all_below, absent_to, once, all_once, own_absent, all_own_absent, valid_offsets, valid_entries, valid_pattern, rises, all_rise, split_of, true_splits, valid_splits}
use Rattle.rows.specs.Lookup.{place_in}
use Rattle.factors.specs.Copy.{has_place, row_has_places, all_have_places, joined, block_or_zero, copied_block, copied_row, copied_rows}
use Rattle.copying.specs.Checks.{copy_checks}

abbrev o : Float
o = fin false 0 (pos 0)

-- A has row 0 with columns 2 and 1, in that order, and column 0 in rows 1 and 2
abbrev starts : List ℕ
starts = 0 ∷ 2 ∷ 3 ∷ 4 ∷ []

abbrev entries : List ℕ
entries = 2 ∷ 1 ∷ 0 ∷ 0 ∷ []

-- the factor has (1, 2) besides
abbrev offsets : List ℕ
offsets = 0 ∷ 2 ∷ 4 ∷ 5 ∷ []

abbrev columns : List ℕ
columns = 1 ∷ 2 ∷ 0 ∷ 2 ∷ 0 ∷ []

abbrev splits : List ℕ
splits = 0 ∷ 3 ∷ 5 ∷ []

module _ (a b c d e f g h i j k l m n p q : Float) where
  -- N = 1: row 0 is sorted, and (1, 2) is +0
  pub one_value : copied_rows binary64 1 starts entries (a ∷ b ∷ c ∷ d ∷ []) offsets columns ≡ b ∷ a ∷ c ∷ o ∷ d ∷ []
  unfolding copied_rows copied_row copied_block block_or_zero joined place_in first_in row_of of_bits
  one_value = refl

  -- N = 2: blocks move whole
  pub four_values : copied_rows binary64 2 starts entries (a ∷ b ∷ c ∷ d ∷ e ∷ f ∷ g ∷ h ∷ i ∷ j ∷ k ∷ l ∷ m ∷ n ∷ p ∷ q ∷ []) offsets columns
      ≡ e ∷ f ∷ g ∷ h ∷ a ∷ b ∷ c ∷ d ∷ i ∷ j ∷ k ∷ l ∷ o ∷ o ∷ o ∷ o ∷ m ∷ n ∷ p ∷ q ∷ []
  unfolding copied_rows copied_row copied_block block_or_zero joined place_in first_in row_of of_bits
  four_values = refl

  -- a matrix without entries leaves +0 everywhere
  pub no_entries_lem : copied_rows binary64 1 (0 ∷ 0 ∷ 0 ∷ 0 ∷ []) [] [] offsets columns ≡ o ∷ o ∷ o ∷ o ∷ o ∷ []
  unfolding copied_rows copied_row copied_block block_or_zero joined place_in first_in row_of of_bits
  no_entries_lem = refl

-- done for N = 1 and 2
pub both_done : (first_of (copy_checks 1 starts entries 3 4 offsets columns splits 3 5) ≡ 0) × (first_of (copy_checks 2 starts entries 12 16 offsets columns splits 12 20) ≡ 0)
unfolding all_have_places row_has_places has_place place_in first_in valid_splits all_rise rises true_splits split_of valid_pattern valid_entries valid_offsets first_is_zero never_fall last_is_count all_below all_once once all_own_absent own_absent absent_to row_of all_to
both_done = (refl, refl)

-- a factor without (0, 2) has no place for that entry of A; with a wrong split it is refused by 11 first
pub no_place : (first_of (copy_checks 1 starts entries 3 4 (0 ∷ 1 ∷ 3 ∷ 4 ∷ []) (1 ∷ 0 ∷ 2 ∷ 0 ∷ []) (0 ∷ 2 ∷ 4 ∷ []) 3 4) ≡ 8)
    × (first_of (copy_checks 1 starts entries 3 4 (0 ∷ 1 ∷ 3 ∷ 4 ∷ []) (1 ∷ 0 ∷ 2 ∷ 0 ∷ []) (0 ∷ 1 ∷ 4 ∷ []) 3 4) ≡ 11)
unfolding all_have_places row_has_places has_place place_in first_in valid_splits all_rise rises true_splits split_of valid_pattern valid_entries valid_offsets first_is_zero never_fall last_is_count all_below all_once once all_own_absent own_absent absent_to row_of all_to
no_place = (refl, refl)

-- A's unsorted row does as A, and not as a factor; a column of A that is the row's own; two patterns that differ in n; a value too many; no rows
pub refusals : (first_of (copy_checks 1 starts entries 3 4 starts entries (0 ∷ 3 ∷ 4 ∷ []) 3 4) ≡ 11) × (first_of (copy_checks 1 starts (0 ∷ 1 ∷ 0 ∷ 0 ∷ []) 3 4 offsets columns splits 3 5) ≡ 3)
    × (first_of (copy_checks 1 (0 ∷ 2 ∷ 3 ∷ []) (2 ∷ 1 ∷ 0 ∷ []) 2 3 offsets columns splits 3 5) ≡ 2) × (first_of (copy_checks 1 starts entries 3 4 offsets columns splits 3 6) ≡ 2)
    × (first_of (copy_checks 1 (0 ∷ []) [] 0 0 offsets columns splits 3 5) ≡ 1)
unfolding valid_splits all_rise rises true_splits split_of valid_pattern valid_entries valid_offsets first_is_zero never_fall last_is_count all_below all_once once all_own_absent own_absent absent_to row_of all_to first_in
refusals = (refl, refl, refl, refl, refl)
