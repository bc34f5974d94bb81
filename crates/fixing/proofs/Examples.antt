-- Worked examples computed from the definitions, whatever the values are: which become val_dia, which +0 and which stay, and what is refused.
-- Assumes nothing.
use mathlib.Core.Path.{◌≡◌, refl}
use mathlib.Core.List.{List, [], ◌∷◌}
use mathlib.Core.Bool.{false}
use Prim.Native.Nat.{ℕ}
use lib.IntN.{ℤ, pos, negsuc}
use lib.Ieee.{Float, fin, binary64, of_bits}
use Rattle.base.specs.All.{all_to}
use Rattle.base.specs.Iterate.{iterate, steps}
use Rattle.answers.specs.Checks.{first_of}
use Rattle.blocks.specs.Lent.{put_at}
use Rattle.patterns.specs.Pattern.{row_of, first_is_zero, never_fall, last_is_count, all_below, absent_to, once, all_once, own_absent, all_own_absent, valid_offsets, valid_entries, valid_pattern}
use Rattle.matrix.specs.Checks.{vector_checks}
use Rattle.fixing.specs.Fixing.{fix_diagonal, fix_diagonal_at, fix_entry_at, fix_entry, fix_entries, fix_row, fix_values}

abbrev plus_zero : Float
plus_zero = fin false 0 (pos 0)

-- two rows that have an entry each: (0, 1) and (1, 0)
abbrev pair : List ℕ
pair = 0 ∷ 1 ∷ 2 ∷ []

abbrev other : List ℕ
other = 1 ∷ 0 ∷ []

-- N = 2, flags 0 and -1 of row 0, and 0 and 0 of row 1: value 1 of row 0 is fixed
abbrev flags : List ℤ
flags = pos 0 ∷ negsuc 0 ∷ pos 0 ∷ pos 0 ∷ []

module _ (v a b c d e f g h : Float) where
  -- of block 0 element (1, 1) becomes val_dia, (1, 0) and (0, 1) become +0, and (0, 0) stays; so does block 1
  pub diagonal_of_two : fix_diagonal binary64 2 v flags 2 (a ∷ b ∷ c ∷ d ∷ e ∷ f ∷ g ∷ h ∷ []) ≡ a ∷ plus_zero ∷ plus_zero ∷ v ∷ e ∷ f ∷ g ∷ h ∷ []
  unfolding fix_diagonal fix_diagonal_at iterate steps put_at of_bits
  diagonal_of_two = refl

  -- entry (0, 1) loses its row 1, entry (1, 0) its column 1
  pub entries_of_two : fix_values binary64 2 flags pair other (a ∷ b ∷ c ∷ d ∷ e ∷ f ∷ g ∷ h ∷ []) ≡ a ∷ plus_zero ∷ c ∷ plus_zero ∷ e ∷ f ∷ plus_zero ∷ plus_zero ∷ []
  unfolding fix_values fix_row fix_entries fix_entry fix_entry_at row_of iterate steps put_at of_bits
  entries_of_two = refl

  -- N = 1, where 7 fixes row 1 as -1 would: its diagonal value, and both entries
  pub one_value : (fix_diagonal binary64 1 v (pos 0 ∷ pos 7 ∷ []) 2 (a ∷ b ∷ []) ≡ a ∷ v ∷ []) × (fix_values binary64 1 (pos 0 ∷ pos 7 ∷ []) pair other (a ∷ b ∷ []) ≡ plus_zero ∷ plus_zero ∷ [])
  unfolding fix_diagonal fix_diagonal_at fix_values fix_row fix_entries fix_entry fix_entry_at row_of iterate steps put_at of_bits
  one_value = (refl, refl)

  -- where no flag is set all stays
  pub nothing_fixed : (fix_diagonal binary64 1 v (pos 0 ∷ pos 0 ∷ []) 2 (a ∷ b ∷ []) ≡ a ∷ b ∷ []) × (fix_values binary64 1 (pos 0 ∷ pos 0 ∷ []) pair other (a ∷ b ∷ []) ≡ a ∷ b ∷ [])
  unfolding fix_diagonal fix_diagonal_at fix_values fix_row fix_entries fix_entry fix_entry_at row_of iterate steps put_at
  nothing_fixed = (refl, refl)

  -- N = 3 with one row: two fixed values, and the diagonal has val_dia at both
  pub block_of_nine : (z : Float) → fix_diagonal binary64 3 v (pos 1 ∷ pos 0 ∷ pos 2 ∷ []) 1 (a ∷ b ∷ c ∷ d ∷ e ∷ f ∷ g ∷ h ∷ z ∷ [])
      ≡ v ∷ plus_zero ∷ plus_zero ∷ plus_zero ∷ e ∷ plus_zero ∷ plus_zero ∷ plus_zero ∷ v ∷ []
  unfolding fix_diagonal fix_diagonal_at iterate steps put_at of_bits
  block_of_nine z = refl

-- done; no rows; flags that are one too few, and one too many; a column that is the row's own
pub refusals : (first_of (vector_checks 2 pair other 8 8 4 4) ≡ 0) × (first_of (vector_checks 2 (0 ∷ []) [] 0 0 0 0) ≡ 1) × (first_of (vector_checks 2 pair other 8 8 3 3) ≡ 2)
    × (first_of (vector_checks 2 pair other 8 8 5 5) ≡ 2) × (first_of (vector_checks 2 pair (0 ∷ 1 ∷ []) 8 8 4 4) ≡ 3)
unfolding valid_pattern valid_entries valid_offsets first_is_zero never_fall last_is_count all_below all_once once all_own_absent own_absent absent_to row_of all_to
refusals = (refl, refl, refl, refl, refl)
