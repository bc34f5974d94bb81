-- What the checks on the lengths of bytes mean: those of the words decide only after those of the bytes, and what is known where none refuses.
-- Assumes nothing.
use mathlib.Core.Path.{◌≡◌, refl}
use mathlib.Core.List.{[], ◌∷◌, ◌++◌}
use mathlib.Core.Bool.{Bool, true, false, ◌||◌}
use Prim.Native.Nat.{ℕ, ◌+◌, ◌-◌, ◌*◌, ◌/◌, ◌≤◌}
use native.Mathlib.Nat.{mul-le-mul_right}
use native.Mathlib.Omega.{arith}
use lib.Dec.{ltb}
use borrow.Author.Tests.{ltb-false}
use Rattle.base.proofs.All.{or_left, or_right}
use Rattle.answers.specs.Checks.{◌when◌, first_of}
use Rattle.answers.specs.Limits.{outside_of, wrong_length}
use Rattle.patterns.specs.Checks.{too_large}
use Rattle.patterns.proofs.SizeLaws.{rows_most, columns_most}
use Rattle.matrix.specs.Checks.{wrong_values, matrix_lengths, vector_lengths}
use Rattle.matrix.proofs.CheckLaws.{block_most, entries_are, diagonal_is, matrix_too, first_is, second_is}
use Rattle.pattern_bytes.specs.Checks.{broken, broken_pattern, byte_checks, Held}
use Rattle.pattern_bytes.proofs.RoomLaws.{whole_indexes, whole_values}
use Rattle.numbered.proofs.NumberedLaws.{dim_of}
use Rattle.matrix_bytes.specs.Checks.{misshapen, misshapen_vectors, misshapen_flags}
use Rattle.matrix_bytes.specs.Rooms.{HeldMatrix, is_many}

-- ---- bytes that are well formed

module _ (dim o cs v d : ℕ) (formed : misshapen dim o cs v d ≡ false) where
  pub range_of : outside_of 1 3 dim ≡ false
  range_of = or_left (outside_of 1 3 dim) (broken_pattern o cs || (broken 8 v || broken 8 d)) formed

  all_whole : (broken_pattern o cs || (broken 8 v || broken 8 d)) ≡ false
  all_whole = or_right (outside_of 1 3 dim) (broken_pattern o cs || (broken 8 v || broken 8 d)) formed

  pattern_whole : broken_pattern o cs ≡ false
  pattern_whole = or_left (broken_pattern o cs) (broken 8 v || broken 8 d) all_whole

  values_whole : (broken 8 v || broken 8 d) ≡ false
  values_whole = or_right (broken_pattern o cs) (broken 8 v || broken 8 d) all_whole

  -- with so many rows and entries, a room of nine values to each holds the matrix
  pub held_matrix : (rows entries : ℕ) → first_of (matrix_lengths dim (o / 4) (cs / 4) (v / 8) (d / 8)) ≡ 0 → too_large (o / 4) (cs / 4) ≡ false
      → o / 4 ≤ rows + 1 → cs / 4 ≤ entries → HeldMatrix rows entries dim o cs v d
  held_matrix rows entries zero_is sized few_offsets few_columns =
      let nine = block_most dim (o / 4) (cs / 4) (dim_of dim range_of) sized in
      record {
        range = range_of;
        of_offsets = record { whole = whole_indexes o (or_left (broken 4 o) (broken 4 cs) pattern_whole); few = few_offsets };
        of_columns = record { whole = whole_indexes cs (or_right (broken 4 o) (broken 4 cs) pattern_whole); few = few_columns };
        of_values = record {
          whole = whole_values v (or_left (broken 8 v) (broken 8 d) values_whole);
          few = omega (arith, mul-le-mul_right (cs / 4) nine, entries_are dim (o / 4) (cs / 4) (v / 8) (d / 8) zero_is);
        };
        of_diagonal = record {
          whole = whole_values d (or_right (broken 8 v) (broken 8 d) values_whole);
          few = omega (arith, mul-le-mul_right (o / 4 - 1) nine, diagonal_is dim (o / 4) (cs / 4) (v / 8) (d / 8) zero_is);
        };
      }

  -- and three words to a row hold a vector
  pub few_words : (rows words : ℕ) → words ≡ dim * (o / 4 - 1) → o / 4 ≤ rows + 1 → words ≤ 3 * rows
  few_words rows words is few = omega (arith, is, mul-le-mul_right (o / 4 - 1) (dim_of dim range_of).most)

-- ---- no check refuses

-- 1 and 2 of the bytes, then 1 and 2 of the words
all_passed : (a b c d : Bool) → first_of ((1 when a) ∷ (2 when b) ∷ (1 when c) ∷ (2 when d) ∷ []) ≡ 0
    → (b ≡ false) × (c ≡ false) × (first_of ((1 when c) ∷ (2 when d) ∷ []) ≡ 0)
all_passed true b c d zero_is = absurd (omega (arith, zero_is))
all_passed false true c d zero_is = absurd (omega (arith, zero_is))
all_passed false false true d zero_is = absurd (omega (arith, zero_is))
all_passed false false false true zero_is = absurd (omega (arith, zero_is))
all_passed false false false false zero_is = (refl, refl, refl)

few_at_small : (bytes : ℕ) → bytes ≤ 68 → bytes / 4 ≤ 16 + 1
few_at_small bytes few = omega arith

module _ (dim o cs v d : ℕ) where
  -- a matrix whose size and lengths are right is held by the full rooms, and a small one by the small rooms
  module _ (formed : misshapen dim o cs v d ≡ false) (sized : too_large (o / 4) (cs / 4) ≡ false)
      (zero_is : first_of (matrix_lengths dim (o / 4) (cs / 4) (v / 8) (d / 8)) ≡ 0) where
    full_offsets_lem : o / 4 ≤ 4096 + 1
    full_offsets_lem = omega (arith, rows_most (o / 4) (cs / 4) sized)

    pub in_full : HeldMatrix 4096 65535 dim o cs v d
    in_full = held_matrix dim o cs v d formed 4096 65535 zero_is sized full_offsets_lem (columns_most (o / 4) (cs / 4) sized)

    pub full_words : (words : ℕ) → words ≡ dim * (o / 4 - 1) → words ≤ 12288
    full_words words is = few_words dim o cs v d formed 4096 words is full_offsets_lem

    module _ (few : is_many o cs ≡ false) where
      small_offsets : o / 4 ≤ 16 + 1
      small_offsets = few_at_small o (ltb-false 68 o (or_left (ltb 68 o) (ltb 256 cs) few))

      small_columns : cs / 4 ≤ 64
      small_columns = let h = ltb-false 256 cs (or_right (ltb 68 o) (ltb 256 cs) few) in omega (arith, h)

      pub in_small : HeldMatrix 16 64 dim o cs v d
      in_small = held_matrix dim o cs v d formed 16 64 zero_is sized small_offsets small_columns

      pub small_words : (words : ℕ) → words ≡ dim * (o / 4 - 1) → words ≤ 48
      small_words words is = few_words dim o cs v d formed 16 words is small_offsets

  -- what the checks of a matrix leave, if they answer 0
  module _ (zero_is : first_of (byte_checks o cs (misshapen dim o cs v d) ++ matrix_lengths dim (o / 4) (cs / 4) (v / 8) (d / 8)) ≡ 0) where
    pub matrix_known : (misshapen dim o cs v d ≡ false) × (too_large (o / 4) (cs / 4) ≡ false) × (first_of (matrix_lengths dim (o / 4) (cs / 4) (v / 8) (d / 8)) ≡ 0)
    matrix_known = all_passed (too_large (o / 4) (cs / 4)) (misshapen dim o cs v d) (too_large (o / 4) (cs / 4)) (wrong_values dim (o / 4 - 1) (cs / 4) (v / 8) (d / 8)) zero_is

  -- and those of a matrix and two slices, of which `torn` says whether their bytes make no whole words
  module _ (torn : Bool) (first second : ℕ)
      (zero_is : first_of (byte_checks o cs (misshapen dim o cs v d || torn) ++ vector_lengths dim (o / 4) (cs / 4) (v / 8) (d / 8) first second) ≡ 0) where
    passed : ((misshapen dim o cs v d || torn) ≡ false) × (too_large (o / 4) (cs / 4) ≡ false) × (first_of (vector_lengths dim (o / 4) (cs / 4) (v / 8) (d / 8) first second) ≡ 0)
    passed = all_passed (too_large (o / 4) (cs / 4)) (misshapen dim o cs v d || torn) (too_large (o / 4) (cs / 4))
        (wrong_values dim (o / 4 - 1) (cs / 4) (v / 8) (d / 8) || (wrong_length (o / 4 - 1) dim first || wrong_length (o / 4 - 1) dim second)) zero_is

    pub vector_known : (misshapen dim o cs v d ≡ false) × (too_large (o / 4) (cs / 4) ≡ false) × (first_of (matrix_lengths dim (o / 4) (cs / 4) (v / 8) (d / 8)) ≡ 0)
    vector_known = (
      or_left (misshapen dim o cs v d) torn passed.0,
      passed.1,
      matrix_too dim (o / 4) (cs / 4) (v / 8) (d / 8) first second passed.2,
    )

    pub not_torn : torn ≡ false
    not_torn = or_right (misshapen dim o cs v d) torn passed.0

    pub first_words : first ≡ dim * (o / 4 - 1)
    first_words = first_is dim (o / 4) (cs / 4) (v / 8) (d / 8) first second passed.2

    pub second_words : second ≡ dim * (o / 4 - 1)
    second_words = second_is dim (o / 4) (cs / 4) (v / 8) (d / 8) first second passed.2

-- so the rooms hold all that a call is lent: of the product
module _ (dim o cs v d y x : ℕ)
    (zero_is : first_of (byte_checks o cs (misshapen_vectors dim o cs v d y x) ++ vector_lengths dim (o / 4) (cs / 4) (v / 8) (d / 8) (y / 8) (x / 8)) ≡ 0) where
  torn_not : (broken 8 y || broken 8 x) ≡ false
  torn_not = not_torn dim o cs v d (broken 8 y || broken 8 x) (y / 8) (x / 8) zero_is

  y_is : y / 8 ≡ dim * (o / 4 - 1)
  y_is = first_words dim o cs v d (broken 8 y || broken 8 x) (y / 8) (x / 8) zero_is

  x_is : x / 8 ≡ dim * (o / 4 - 1)
  x_is = second_words dim o cs v d (broken 8 y || broken 8 x) (y / 8) (x / 8) zero_is

  known : (misshapen dim o cs v d ≡ false) × (too_large (o / 4) (cs / 4) ≡ false) × (first_of (matrix_lengths dim (o / 4) (cs / 4) (v / 8) (d / 8)) ≡ 0)
  known = vector_known dim o cs v d (broken 8 y || broken 8 x) (y / 8) (x / 8) zero_is

  pub vectors_in_full : (HeldMatrix 4096 65535 dim o cs v d) × (Held 8 12288 y) × (Held 8 12288 x)
  vectors_in_full =
      let few = full_words dim o cs v d known.0 known.1 known.2 in (
        in_full dim o cs v d known.0 known.1 known.2,
        record { whole = whole_values y (or_left (broken 8 y) (broken 8 x) torn_not); few = few (y / 8) y_is },
        record { whole = whole_values x (or_right (broken 8 y) (broken 8 x) torn_not); few = few (x / 8) x_is },
      )

  pub vectors_in_small : is_many o cs ≡ false → (HeldMatrix 16 64 dim o cs v d) × (Held 8 48 y) × (Held 8 48 x)
  vectors_in_small small =
      let few = small_words dim o cs v d known.0 known.1 known.2 small in (
        in_small dim o cs v d known.0 known.1 known.2 small,
        record { whole = whole_values y (or_left (broken 8 y) (broken 8 x) torn_not); few = few (y / 8) y_is },
        record { whole = whole_values x (or_right (broken 8 y) (broken 8 x) torn_not); few = few (x / 8) x_is },
      )

-- of `set_zero`, which has no flags
no_flags : (room : ℕ) → Held 4 room 0
no_flags room = record { whole = refl; few = omega arith }

module _ (dim o cs v d : ℕ)
    (zero_is : first_of (byte_checks o cs (misshapen dim o cs v d) ++ matrix_lengths dim (o / 4) (cs / 4) (v / 8) (d / 8)) ≡ 0) where
  pub matrix_in_full : (HeldMatrix 4096 65535 dim o cs v d) × (Held 4 12288 0)
  matrix_in_full = let known = matrix_known dim o cs v d zero_is in (in_full dim o cs v d known.0 known.1 known.2, no_flags 12288)

  pub matrix_in_small : is_many o cs ≡ false → (HeldMatrix 16 64 dim o cs v d) × (Held 4 48 0)
  matrix_in_small small = let known = matrix_known dim o cs v d zero_is in (in_small dim o cs v d known.0 known.1 known.2 small, no_flags 48)

-- and of `set_fixed_bc`
module _ (dim o cs v d flags : ℕ)
    (zero_is : first_of (byte_checks o cs (misshapen_flags dim o cs v d flags) ++ vector_lengths dim (o / 4) (cs / 4) (v / 8) (d / 8) (flags / 4) (flags / 4)) ≡ 0) where
  flags_whole : flags ≡ 4 * (flags / 4)
  flags_whole = whole_indexes flags (not_torn dim o cs v d (broken 4 flags) (flags / 4) (flags / 4) zero_is)

  flags_are : flags / 4 ≡ dim * (o / 4 - 1)
  flags_are = first_words dim o cs v d (broken 4 flags) (flags / 4) (flags / 4) zero_is

  pub flags_in_full : (HeldMatrix 4096 65535 dim o cs v d) × (Held 4 12288 flags)
  flags_in_full =
      let known = vector_known dim o cs v d (broken 4 flags) (flags / 4) (flags / 4) zero_is in (
        in_full dim o cs v d known.0 known.1 known.2,
        record { whole = flags_whole; few = full_words dim o cs v d known.0 known.1 known.2 (flags / 4) flags_are },
      )

  pub flags_in_small : is_many o cs ≡ false → (HeldMatrix 16 64 dim o cs v d) × (Held 4 48 flags)
  flags_in_small small =
      let known = vector_known dim o cs v d (broken 4 flags) (flags / 4) (flags / 4) zero_is in (
        in_small dim o cs v d known.0 known.1 known.2 small,
        record { whole = flags_whole; few = small_words dim o cs v d known.0 known.1 known.2 small (flags / 4) flags_are },
      )

-- the checks of the bytes alone
pub formed_of : (o cs : ℕ) (wrong : Bool) → first_of (byte_checks o cs wrong) ≡ 0 → wrong ≡ false
formed_of o cs wrong = one_two_lem (too_large (o / 4) (cs / 4)) wrong
  where
    one_two_lem : (a b : Bool) → first_of ((1 when a) ∷ (2 when b) ∷ []) ≡ 0 → b ≡ false
    one_two_lem true b zero_is = absurd (omega (arith, zero_is))
    one_two_lem false true zero_is = absurd (omega (arith, zero_is))
    one_two_lem false false zero_is = refl
