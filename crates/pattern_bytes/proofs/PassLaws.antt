-- What the checks before the words are read leave to the call's own checks, and what is known once they have passed.
-- Assumes nothing.
use mathlib.Core.Path.{◌≡◌, refl, sym, ◌∙◌}
use mathlib.Core.List.{List, [], ◌++◌}
use mathlib.Core.Bool.{Bool, true, false, not, ◌&&◌}
use Prim.Native.Nat.{ℕ, ◌-◌, ◌*◌, ◌/◌, ◌≤◌}
use native.Mathlib.Omega.{arith}
use lib.Dec.{ltb}
use borrow.Author.Tests.{eqb-true, ltb-false, not-true, not-false}
use Rattle.answers.specs.Numbers.{Answer}
use Rattle.base.proofs.All.{and_left, and_right, or_left, or_right}
use Rattle.answers.specs.Numbers.{number_of}
use Rattle.answers.specs.Checks.{Check, first_of, none_holds}
use Rattle.answers.proofs.EndLaws.{none_of_zero, refused_earlier, left_to_later}
use Rattle.answers.specs.Limits.{entries_out_of_range}
use Rattle.patterns.specs.Checks.{too_large}
use Rattle.patterns.proofs.SizeLaws.{rows_most, columns_most}
use Rattle.wire.specs.Words.{indexes_in}
use Rattle.wire.specs.Bytes.{words_in, words_to}
use Rattle.pattern_bytes.specs.Checks.{broken, byte_checks, broken_pattern, broken_factor, row_checks, Held}
use Rattle.pattern_bytes.proofs.RoomLaws.{whole_indexes}

-- ---- the number of a call

module _ (offsets columns : ℕ) (misshapen : Bool) (answer : Answer)
    (first : number_of answer ≡ first_of (byte_checks offsets columns misshapen)) where
  pub stopped : (later : List Check) → (number_of answer ≡ 0 → ⊥) → number_of answer ≡ first_of (byte_checks offsets columns misshapen ++ later)
  stopped later other = first ∙ sym (refused_earlier (byte_checks offsets columns misshapen) later (λ z. other (first ∙ z)))

  pub passed : number_of answer ≡ 0 → none_holds (byte_checks offsets columns misshapen) ≡ true
  passed zero_is = none_of_zero (byte_checks offsets columns misshapen) refl (sym first ∙ zero_is)

pub handed_on : (offsets columns : ℕ) (misshapen : Bool) (later : List Check) (answer : Answer) → none_holds (byte_checks offsets columns misshapen) ≡ true
    → number_of answer ≡ first_of later → number_of answer ≡ first_of (byte_checks offsets columns misshapen ++ later)
handed_on offsets columns misshapen later answer none is = is ∙ sym (left_to_later (byte_checks offsets columns misshapen) later none)

-- ---- what is known where they have passed

module _ (offsets columns : ℕ) (misshapen : Bool) (none : none_holds (byte_checks offsets columns misshapen) ≡ true) where
  pub not_too_large : too_large (offsets / 4) (columns / 4) ≡ false
  not_too_large = not-true _ (and_left (not (too_large (offsets / 4) (columns / 4))) (not misshapen && true) none)

  pub well_formed : misshapen ≡ false
  well_formed = not-true _ (and_left (not misshapen) true (and_right (not (too_large (offsets / 4) (columns / 4))) (not misshapen && true) none))

  pub offsets_few : offsets / 4 ≤ 4097
  offsets_few = omega (arith, rows_most (offsets / 4) (columns / 4) not_too_large)

  pub columns_few : columns / 4 ≤ 65535
  columns_few = columns_most (offsets / 4) (columns / 4) not_too_large

-- a pattern's bytes
pub pattern_whole : (offsets columns : ℕ) (misshapen : Bool) → none_holds (byte_checks offsets columns misshapen) ≡ true → broken_pattern offsets columns ≡ false
    → (Held 4 4097 offsets) × (Held 4 65535 columns)
pattern_whole offsets columns misshapen none right = (
  record { whole = whole_indexes offsets (or_left (broken 4 offsets) (broken 4 columns) right); few = offsets_few offsets columns misshapen none },
  record { whole = whole_indexes columns (or_right (broken 4 offsets) (broken 4 columns) right); few = columns_few offsets columns misshapen none },
)

-- and a factor's: it has as many splits as rows
pub factor_whole : (offsets columns splits : ℕ) → none_holds (byte_checks offsets columns (broken_factor offsets columns splits)) ≡ true
    → (Held 4 4097 offsets) × (Held 4 65535 columns) × (Held 4 4096 splits)
factor_whole offsets columns splits none =
    let right = well_formed offsets columns (broken_factor offsets columns splits) none in
    let pattern = pattern_whole offsets columns (broken_factor offsets columns splits) none (or_left (broken_pattern offsets columns) _ right) in
    let each : splits ≡ 4 * (offsets / 4 - 1) = eqb-true splits _ (not-false _ (or_right (broken_pattern offsets columns) _ right)) in
    let most = rows_most (offsets / 4) (columns / 4) (not_too_large offsets columns (broken_factor offsets columns splits) none) in
    (pattern.0, pattern.1, record { whole = omega (arith, each); few = omega (arith, each, most) })

-- no bytes are no words
pub no_words : indexes_in [] ≡ []
unfolding indexes_in words_in words_to
no_words = refl

-- a row's bytes
pub row_whole : (columns : ℕ) → none_holds (row_checks columns) ≡ true → Held 4 65535 columns
row_whole columns none =
    let few = not-true _ (and_left (not (entries_out_of_range (columns / 4))) (not (broken 4 columns) && true) none) in
    let right = not-true _ (and_left (not (broken 4 columns)) true (and_right (not (entries_out_of_range (columns / 4))) (not (broken 4 columns) && true) none)) in
    record { whole = whole_indexes columns right; few = ltb-false 65535 (columns / 4) (or_right (ltb (columns / 4) 0) (ltb 65535 (columns / 4)) few) }
