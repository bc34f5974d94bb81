-- The checks of a factor by the lengths of its bytes: each way out of them, and what the rooms hold when none refuses.
-- Assumes nothing.
use mathlib.Core.Path.{◌≡◌, refl}
use mathlib.Core.List.{[], ◌∷◌, ◌++◌}
use mathlib.Core.Bool.{Bool, true, false, not, ◌||◌}
use Prim.Native.Nat.{ℕ, ◌-◌, ◌*◌, ◌/◌, ◌≤◌}
use native.Mathlib.Omega.{arith}
use lib.Dec.{eqb}
use borrow.Author.Tests.{eqb-true, not-false}
use Rattle.answers.specs.Checks.{◌when◌, first_of}
use Rattle.patterns.specs.Checks.{too_large}
use Rattle.patterns.proofs.SizeLaws.{rows_least, rows_most}
use Rattle.matrix.specs.Checks.{wrong_values, matrix_lengths}
use Rattle.pattern_bytes.specs.Checks.{broken, byte_checks}
use Rattle.pattern_bytes.proofs.RoomLaws.{whole_indexes}
use Rattle.matrix_bytes.specs.Checks.{misshapen}
use Rattle.matrix_bytes.specs.Rooms.{is_many}
use Rattle.matrix_bytes.proofs.CheckLaws.{in_full, in_small, full_words, small_words, matrix_known}
use Rattle.factor_bytes.specs.Checks.{misshapen_factor, factor_lengths}
use Rattle.factor_bytes.specs.Rooms.{HeldFactor}

-- ---- the ways out: large and wrong are what the matrix is, m its bytes, and s, t, l the bytes of the splits, those of others, and the number of splits

matrix_first : (large m wrong s t l : Bool) → (first_of ((1 when large) ∷ (2 when m) ∷ (1 when large) ∷ (2 when wrong) ∷ []) ≡ 0 → ⊥)
    → first_of ((1 when large) ∷ (2 when m) ∷ (1 when large) ∷ (2 when wrong) ∷ [])
    ≡ first_of ((1 when large) ∷ (2 when ((m || s) || t)) ∷ (1 when large) ∷ (2 when (wrong || l)) ∷ [])
matrix_first true m wrong s t l other = refl
matrix_first false true wrong s t l other = refl
matrix_first false false true true t l other = refl
matrix_first false false true false true l other = refl
matrix_first false false true false false l other = refl
matrix_first false false false s t l other = absurd (other refl)

-- what the matrix leaves to the rest
left_to_splits : (large m wrong s t l : Bool) → first_of ((1 when large) ∷ (2 when m) ∷ (1 when large) ∷ (2 when wrong) ∷ []) ≡ 0
    → first_of ((1 when large) ∷ (2 when ((m || s) || t)) ∷ (1 when large) ∷ (2 when (wrong || l)) ∷ []) ≡ first_of ((2 when (s || t)) ∷ (2 when l) ∷ [])
left_to_splits true m wrong s t l zero_is = absurd (omega (arith, zero_is))
left_to_splits false true wrong s t l zero_is = absurd (omega (arith, zero_is))
left_to_splits false false true s t l zero_is = absurd (omega (arith, zero_is))
left_to_splits false false false s t l zero_is = refl

module _ (dim o cs s d v : ℕ) (torn : Bool) where
  pub matrix_refuses : (first_of (byte_checks o cs (misshapen dim o cs v d) ++ matrix_lengths dim (o / 4) (cs / 4) (v / 8) (d / 8)) ≡ 0 → ⊥)
      → first_of (byte_checks o cs (misshapen dim o cs v d) ++ matrix_lengths dim (o / 4) (cs / 4) (v / 8) (d / 8))
      ≡ first_of (byte_checks o cs (misshapen_factor dim o cs s d v || torn) ++ factor_lengths dim (o / 4) (cs / 4) (s / 4) (d / 8) (v / 8))
  matrix_refuses =
      matrix_first (too_large (o / 4) (cs / 4)) (misshapen dim o cs v d) (wrong_values dim (o / 4 - 1) (cs / 4) (v / 8) (d / 8)) (broken 4 s) torn (not (eqb (s / 4) (o / 4 - 1)))

  pub splits_decide : first_of (byte_checks o cs (misshapen dim o cs v d) ++ matrix_lengths dim (o / 4) (cs / 4) (v / 8) (d / 8)) ≡ 0
      → first_of (byte_checks o cs (misshapen_factor dim o cs s d v || torn) ++ factor_lengths dim (o / 4) (cs / 4) (s / 4) (d / 8) (v / 8))
      ≡ first_of ((2 when (broken 4 s || torn)) ∷ (2 when not (eqb (s / 4) (o / 4 - 1))) ∷ [])
  splits_decide =
      left_to_splits (too_large (o / 4) (cs / 4)) (misshapen dim o cs v d) (wrong_values dim (o / 4 - 1) (cs / 4) (v / 8) (d / 8)) (broken 4 s) torn (not (eqb (s / 4) (o / 4 - 1)))

  -- a matrix that is not refused has rows
  pub some_offsets : first_of (byte_checks o cs (misshapen dim o cs v d) ++ matrix_lengths dim (o / 4) (cs / 4) (v / 8) (d / 8)) ≡ 0 → 1 ≤ o / 4
  some_offsets zero_is = omega (arith, rows_least (o / 4) (cs / 4) (matrix_known dim o cs v d zero_is).1)

-- ---- no check refuses

none_refuses : (large m wrong s t l : Bool) → first_of ((1 when large) ∷ (2 when ((m || s) || t)) ∷ (1 when large) ∷ (2 when (wrong || l)) ∷ []) ≡ 0
    → (first_of ((1 when large) ∷ (2 when m) ∷ (1 when large) ∷ (2 when wrong) ∷ []) ≡ 0) × (s ≡ false) × (t ≡ false) × (l ≡ false)
none_refuses true m wrong s t l zero_is = absurd (omega (arith, zero_is))
none_refuses false true wrong s t l zero_is = absurd (omega (arith, zero_is))
none_refuses false false wrong true t l zero_is = absurd (omega (arith, zero_is))
none_refuses false false wrong false true l zero_is = absurd (omega (arith, zero_is))
none_refuses false false true false false l zero_is = absurd (omega (arith, zero_is))
none_refuses false false false false false true zero_is = absurd (omega (arith, zero_is))
none_refuses false false false false false false zero_is = (refl, refl, refl, refl)

module _ (dim o cs s d v : ℕ) (torn : Bool)
    (zero_is : first_of (byte_checks o cs (misshapen_factor dim o cs s d v || torn) ++ factor_lengths dim (o / 4) (cs / 4) (s / 4) (d / 8) (v / 8)) ≡ 0) where
  passed : (first_of (byte_checks o cs (misshapen dim o cs v d) ++ matrix_lengths dim (o / 4) (cs / 4) (v / 8) (d / 8)) ≡ 0) × (broken 4 s ≡ false) × (torn ≡ false) × (not (eqb (s / 4) (o / 4 - 1)) ≡ false)
  passed =
      none_refuses (too_large (o / 4) (cs / 4)) (misshapen dim o cs v d) (wrong_values dim (o / 4 - 1) (cs / 4) (v / 8) (d / 8)) (broken 4 s) torn (not (eqb (s / 4) (o / 4 - 1))) zero_is

  known : (misshapen dim o cs v d ≡ false) × (too_large (o / 4) (cs / 4) ≡ false) × (first_of (matrix_lengths dim (o / 4) (cs / 4) (v / 8) (d / 8)) ≡ 0)
  known = matrix_known dim o cs v d passed.0

  -- the factor has rows
  pub has_offsets : 1 ≤ o / 4
  has_offsets = some_offsets dim o cs s d v torn passed.0

  pub not_torn : torn ≡ false
  not_torn = passed.2

  splits_are : s / 4 ≡ o / 4 - 1
  splits_are = eqb-true (s / 4) (o / 4 - 1) (not-false _ passed.3)

  -- the full rooms hold the factor, and three words to a row a vector
  pub factor_in_full : HeldFactor 4096 65535 dim o cs s d v
  factor_in_full =
      record {
        matrix = in_full dim o cs v d known.0 known.1 known.2;
        of_splits = record { whole = whole_indexes s passed.1; few = omega (arith, splits_are, rows_most (o / 4) (cs / 4) known.1) };
      }

  pub words_in_full : (words : ℕ) → words ≡ dim * (o / 4 - 1) → words ≤ 12288
  words_in_full = full_words dim o cs v d known.0 known.1 known.2

  -- and the small ones those of a small factor
  module _ (few : is_many o cs ≡ false) where
    pub factor_in_small : HeldFactor 16 64 dim o cs s d v
    factor_in_small =
        let held = in_small dim o cs v d known.0 known.1 known.2 few in
        record {
          matrix = held;
          of_splits = record { whole = whole_indexes s passed.1; few = omega (arith, splits_are, held.of_offsets.few) };
        }

    pub words_in_small : (words : ℕ) → words ≡ dim * (o / 4 - 1) → words ≤ 48
    words_in_small = small_words dim o cs v d known.0 known.1 known.2 few
