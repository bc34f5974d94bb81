-- Document 01's case 7 and a pattern of one row, computed from the definitions.
-- Assumes nothing.
use mathlib.Core.Path.{◌≡◌, refl}
use mathlib.Core.List.{[], ◌∷◌}
use Rattle.answers.specs.Checks.{first_of}
use Rattle.fill.specs.Fill.{joined, listed}
use Rattle.full.specs.Full.{others, full_columns, full_offsets, full_splits, full_checks}

case_7 : (full_offsets 3 ≡ 0 ∷ 2 ∷ 4 ∷ 6 ∷ []) × (full_columns 3 3 ≡ 1 ∷ 2 ∷ 0 ∷ 2 ∷ 0 ∷ 1 ∷ []) × (full_splits 3 ≡ 0 ∷ 3 ∷ 6 ∷ [])
unfolding full_offsets full_columns full_splits others joined listed
case_7 = (refl, refl, refl)

-- n = 1: no entries, split 0
one_row_lem : (full_offsets 1 ≡ 0 ∷ 0 ∷ []) × (full_columns 1 1 ≡ []) × (full_splits 1 ≡ 0 ∷ [])
unfolding full_offsets full_columns full_splits others joined listed
one_row_lem = (refl, refl, refl)

-- n = 256 has 65,280 entries; n = 257 needs 65,792, which no room holds
largest : (first_of (full_checks 256 257 65279 256) ≡ 4) × (first_of (full_checks 256 257 65280 256) ≡ 0) × (first_of (full_checks 257 258 65535 257) ≡ 4)
largest = (refl, refl, refl)
