-- The checks by lengths, on counts of bytes: what the sizes are when none of them refuses.
-- Assumes nothing.
use mathlib.Core.Path.{◌≡◌, refl}
use mathlib.Core.List.{List, ◌∷◌}
use mathlib.Core.Bool.{Bool, true, false, ◌&&◌, ◌||◌}
use Prim.Native.Nat.{ℕ, ◌*◌, ◌/◌, ◌≤◌}
use native.Mathlib.Nat.{mul-le-mul_right}
use native.Mathlib.Omega.{arith}
use lib.Dec.{leb}
use borrow.Author.Tests.{leb-true}
use Rattle.answers.specs.Numbers.{Answer}
use Rattle.base.proofs.All.{and_left, and_right, or_left, or_right}
use Rattle.answers.specs.Numbers.{number_of}
use Rattle.answers.specs.Checks.{Check, ◌when◌, first_of}
use Rattle.answers.specs.Limits.{outside_of}
use Rattle.lent.specs.Steps.{Dim}
use Rattle.patterns.specs.Checks.{too_large}
use Rattle.patterns.proofs.SizeLaws.{rows_most, columns_most}
use Rattle.elements.specs.Checks.{entry_lengths}
use Rattle.elements.proofs.CheckLaws as lengths
use Rattle.pattern_bytes.specs.Checks.{broken, broken_pattern, byte_checks, Held}
use Rattle.pattern_bytes.proofs.PassLaws.{passed, well_formed}
use Rattle.pattern_bytes.proofs.RoomLaws.{whole_indexes, whole_values}
use Rattle.numbered.proofs.NumberedLaws.{dim_of}
use Rattle.entry_bytes.specs.Checks.{broken_element, broken_entries}
use Rattle.entry_bytes.specs.Rooms.{blkcsr_lengths, ElementFits, EntriesFit, EntriesSized}

-- past the checks of the bytes N is in range
pub dim_passed : (offsets columns dim : ℕ) (rest : Bool) (answer : Answer) → number_of answer ≡ first_of (byte_checks offsets columns (outside_of 1 3 dim || rest))
    → number_of answer ≡ 0 → Dim dim
dim_passed offsets columns dim rest answer first zero_is =
    let misshapen = outside_of 1 3 dim || rest in
    dim_of dim (or_left (outside_of 1 3 dim) rest (well_formed offsets columns misshapen (passed offsets columns misshapen answer first zero_is)))

-- 1, then 2, then others: what holds if the number is 0
pub lengths_left : (large wrong : Bool) (later : List Check) → first_of ((1 when large) ∷ (2 when wrong) ∷ later) ≡ 0 → (wrong ≡ false) × (first_of later ≡ 0)
lengths_left true wrong later zero_is = absurd (omega (arith, zero_is))
lengths_left false true later zero_is = absurd (omega (arith, zero_is))
lengths_left false false later zero_is = (refl, zero_is)

-- ---- sizes

pub held : (k room bytes : ℕ) → bytes ≡ k * (bytes / k) → bytes / k ≤ room → Held k room bytes
held k room bytes whole few = record { whole = whole; few = few }

module _ (n rows cols element offsets columns values : ℕ) (dim : Dim n) (unbroken : broken_entries rows cols element offsets columns values ≡ false)
    (zero_is : first_of (entry_lengths n (rows / 4) (cols / 4) (element / 8) (offsets / 4) (columns / 4) (values / 8)) ≡ 0) where
  of_element : broken_element rows cols element ≡ false
  of_element = or_left (broken_element rows cols element) (broken_pattern offsets columns || broken 8 values) unbroken

  of_matrix : (broken_pattern offsets columns || broken 8 values) ≡ false
  of_matrix = or_right (broken_element rows cols element) (broken_pattern offsets columns || broken 8 values) unbroken

  of_pattern : broken_pattern offsets columns ≡ false
  of_pattern = or_left (broken_pattern offsets columns) (broken 8 values) of_matrix

  few : rows / 4 ≤ 8
  few = lengths.nodes_most (rows / 4) (lengths.nodes_few n (rows / 4) (cols / 4) (element / 8) (offsets / 4) (columns / 4) (values / 8) zero_is)

  alike : cols / 4 ≡ rows / 4
  alike = lengths.lists_alike n (rows / 4) (cols / 4) (element / 8) (offsets / 4) (columns / 4) (values / 8) zero_is

  values_few : element / 8 ≤ 576
  values_few =
      rw (lengths.element_is n (rows / 4) (cols / 4) (element / 8) (offsets / 4) (columns / 4) (values / 8) zero_is)
      (lengths.element_most n (rows / 4) dim (lengths.nodes_few n (rows / 4) (cols / 4) (element / 8) (offsets / 4) (columns / 4) (values / 8) zero_is))

  pub element_fits : ElementFits rows cols element
  element_fits = record {
    of_rows = held 4 8 rows (whole_indexes rows (or_left (broken 4 rows) (broken 4 cols || broken 8 element) of_element)) few;
    of_cols = held 4 8 cols (whole_indexes cols (or_left (broken 4 cols) (broken 8 element) (or_right (broken 4 rows) (broken 4 cols || broken 8 element) of_element))) (rw alike few);
    of_element = held 8 576 element (whole_values element (or_right (broken 4 cols) (broken 8 element) (or_right (broken 4 rows) (broken 4 cols || broken 8 element) of_element))) values_few;
  }

  pub sized : too_large (offsets / 4) (columns / 4) ≡ false
  sized = lengths.sized n (rows / 4) (cols / 4) (element / 8) (offsets / 4) (columns / 4) (values / 8) zero_is

  values_are : values / 8 ≡ n * n * (columns / 4)
  values_are = lengths.values_are n (rows / 4) (cols / 4) (element / 8) (offsets / 4) (columns / 4) (values / 8) zero_is

  pub entries_sized : EntriesSized offsets columns values
  entries_sized = record {
    full = record {
      of_offsets = held 4 4097 offsets (whole_indexes offsets (or_left (broken 4 offsets) (broken 4 columns) of_pattern)) (omega (arith, rows_most (offsets / 4) (columns / 4) sized));
      of_columns = held 4 65535 columns (whole_indexes columns (or_right (broken 4 offsets) (broken 4 columns) of_pattern)) (columns_most (offsets / 4) (columns / 4) sized);
      of_values = held 8 589815 values (whole_values values (or_right (broken_pattern offsets columns) (broken 8 values) of_matrix)) (rw values_are (lengths.entries_most n (offsets / 4) (columns / 4) dim sized));
    };
    per_entry = rw values_are (mul-le-mul_right (columns / 4) (lengths.block_most n dim));
  }

-- what the way asks, from the checks that have passed
pub blkcsr_asked : (n rows cols element offsets columns values : ℕ) → first_of (blkcsr_lengths n rows cols element offsets columns values) ≡ 0
    → (Dim n) × (EntriesSized offsets columns values) × (ElementFits rows cols element)
blkcsr_asked n rows cols element offsets columns values zero_is =
    let both = lengths_left (too_large (offsets / 4) (columns / 4)) (outside_of 1 3 n || broken_entries rows cols element offsets columns values) (entry_lengths n (rows / 4) (cols / 4) (element / 8) (offsets / 4) (columns / 4) (values / 8)) zero_is in
    let dim = dim_of n (or_left (outside_of 1 3 n) (broken_entries rows cols element offsets columns values) both.0) in
    let unbroken = or_right (outside_of 1 3 n) (broken_entries rows cols element offsets columns values) both.0 in (
      dim,
      entries_sized n rows cols element offsets columns values dim unbroken both.1,
      element_fits n rows cols element offsets columns values dim unbroken both.1,
    )

-- ---- a small pattern

module _ (offsets columns : ℕ) (small : (leb (offsets / 4) 17 && leb (columns / 4) 64) ≡ true) where
  pub few_offsets : offsets / 4 ≤ 17
  few_offsets = leb-true (offsets / 4) 17 (and_left (leb (offsets / 4) 17) (leb (columns / 4) 64) small)

  few_columns : columns / 4 ≤ 64
  few_columns = leb-true (columns / 4) 64 (and_right (leb (offsets / 4) 17) (leb (columns / 4) 64) small)

  pub small_entries : (values : ℕ) → EntriesSized offsets columns values → EntriesFit 17 64 576 offsets columns values
  small_entries values sizes = record {
    of_offsets = held 4 17 offsets sizes.full.of_offsets.whole few_offsets;
    of_columns = held 4 64 columns sizes.full.of_columns.whole few_columns;
    of_values = held 8 576 values sizes.full.of_values.whole (omega (arith, few_columns, sizes.per_entry));
  }
