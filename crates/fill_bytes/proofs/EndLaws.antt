-- The ends of a call on bytes: its lengths refuse it, and nothing has changed, or its words decide.
-- Assumes nothing.
use mathlib.Core.Path.{◌≡◌, refl, sym, ◌∙◌}
use mathlib.Core.List.{List, ◌∷◌, ◌++◌}
use mathlib.Core.Bool.{Bool, true, false}
use Prim.Native.Nat.{ℕ, ◌-◌, ◌/◌, ◌≤◌}
use native.Mathlib.Omega.{arith}
use Rattle.base.proofs.All.{or_left, or_right}
use Rattle.answers.specs.Checks.{Check, ◌when◌, first_of, none_holds}
use Rattle.answers.proofs.EndLaws.{left_to_later}
use Rattle.fill.specs.Promise.{cleared, leaves}
use Rattle.fill.proofs.OutputLaws.{Outputs}
use Rattle.patterns.specs.Checks.{too_large}
use Rattle.patterns.proofs.SizeLaws.{rows_most, columns_most}
use Rattle.pattern_bytes.specs.Checks.{broken, broken_pattern, Held}
use Rattle.pattern_bytes.proofs.RoomLaws.{whole_indexes}
use Rattle.fill_way.specs.Promise.{Wrote, Cleared}
use Rattle.fill_way.specs.Ways.{HeldFill}
use Rattle.fill_way.proofs.WayLaws.{rechecked}
use Rattle.fill_bytes.specs.Checks.{broken_outputs, broken_fill, length_checks}

-- 1 and 2 leave every word
kept : (large torn wrong : Bool) (number : ℕ) (new old : List ℕ) → number ≡ first_of (length_checks large torn wrong) → (number ≡ 0 → ⊥) → old ≡ leaves number new old
kept true torn wrong number new old is other = rw is
kept false true wrong number new old is other = rw is
kept false false true number new old is other = rw is
kept false false false number new old is other = absurd (other is)

-- the call on words has the same 1 and 2, after those of the bytes
twice : (large torn wrong : Bool) (later : List Check) (number : ℕ) → number ≡ first_of (length_checks large torn wrong) → (number ≡ 0 → ⊥)
    → number ≡ first_of ((1 when large) ∷ (2 when torn) ∷ (1 when large) ∷ (2 when wrong) ∷ later)
twice true torn wrong later number is other = is
twice false true wrong later number is other = is
twice false false true later number is other = is
twice false false false later number is other = absurd (other is)

-- 0 says that none of them holds
pub none_of_lengths : (large torn wrong : Bool) → first_of (length_checks large torn wrong) ≡ 0 → (large ≡ false) × (torn ≡ false) × (wrong ≡ false)
none_of_lengths true torn wrong zero_is = absurd (omega (arith, zero_is))
none_of_lengths false true wrong zero_is = absurd (omega (arith, zero_is))
none_of_lengths false false true zero_is = absurd (omega (arith, zero_is))
none_of_lengths false false false zero_is = (refl, refl, refl)

module _ (number : ℕ) (newO new_c new_s o cs ss : List ℕ) where
  pub refused : (large torn wrong : Bool) (later : List Check) → number ≡ first_of (length_checks large torn wrong) → (number ≡ 0 → ⊥)
      → Wrote ((1 when large) ∷ (2 when torn) ∷ (1 when large) ∷ (2 when wrong) ∷ later) number newO new_c new_s o cs ss o cs ss
  refused large torn wrong later is other =
      record {
        first = twice large torn wrong later number is other;
        offsets_are = kept large torn wrong number newO o is other;
        columns_are = kept large torn wrong number new_c cs is other;
        splits_are = kept large torn wrong number new_s ss is other;
      }

  -- the words decide where no earlier check holds
  pub decided : (earlier checks later : List Check) (o' cs' ss' : List ℕ) → none_holds earlier ≡ true → first_of checks ≡ first_of later → Wrote checks number newO new_c new_s o cs ss o' cs' ss'
      → Wrote (earlier ++ later) number newO new_c new_s o cs ss o' cs' ss'
  decided earlier checks later o' cs' ss' none same =
      rechecked checks (earlier ++ later) number newO new_c new_s o cs ss o' cs' ss' (same ∙ sym (left_to_later earlier later none))

-- the work of a call that its lengths refuse
pub work_kept : (large torn wrong : Bool) (number : ℕ) (levels row : List ℕ) → number ≡ first_of (length_checks large torn wrong) → (number ≡ 0 → ⊥)
    → Cleared number levels row levels row
work_kept large torn wrong number levels row is other =
    record { levels_are = kept large torn wrong number _ levels is other; row_is = kept large torn wrong number _ row is other }

-- and of one that was made: n is its number as the code has it
pub work_cleared : (n number : ℕ) (levels row levels' row' : List ℕ) → n ≡ number → levels' ≡ leaves n (cleared levels) levels → row' ≡ leaves n (cleared row) row
    → Cleared number levels row levels' row'
work_cleared n number levels row levels' row' is el er = record { levels_are = rw is at el; row_is = rw is at er }

-- ---- the rooms hold what the lengths allow

module _ (n offsets columns splits : ℕ) (few : n ≤ 4096) (unbroken : broken_outputs offsets columns splits ≡ false)
    (says : Outputs n (offsets / 4) (columns / 4) (splits / 4)) where
  pub offsets_held : Held 4 4097 offsets
  offsets_held = record {
    whole = whole_indexes offsets (or_left (broken 4 offsets) (broken 4 columns) (or_left (broken_pattern offsets columns) (broken 4 splits) unbroken));
    few = omega (arith, says.offsets_long);
  }

  pub columns_held : Held 4 65535 columns
  columns_held = record {
    whole = whole_indexes columns (or_right (broken 4 offsets) (broken 4 columns) (or_left (broken_pattern offsets columns) (broken 4 splits) unbroken));
    few = says.room;
  }

  pub splits_held : Held 4 4096 splits
  splits_held = record { whole = whole_indexes splits (or_right (broken_pattern offsets columns) (broken 4 splits) unbroken); few = omega (arith, says.splits_long) }

-- of a call that reads A
pub fill_held : (starts entries offsets columns splits : ℕ) → too_large (starts / 4) (entries / 4) ≡ false → broken_fill starts entries offsets columns splits ≡ false
    → Outputs (starts / 4 - 1) (offsets / 4) (columns / 4) (splits / 4) → HeldFill 4096 65535 65535 starts entries offsets columns splits
fill_held starts entries offsets columns splits sized unbroken says =
    let n = starts / 4 - 1 in
    let few = rows_most (starts / 4) (entries / 4) sized in
    let a = or_left (broken_pattern starts entries) (broken_outputs offsets columns splits) unbroken in
    let outputs = or_right (broken_pattern starts entries) (broken_outputs offsets columns splits) unbroken in
    record {
      of_starts = record { whole = whole_indexes starts (or_left (broken 4 starts) (broken 4 entries) a); few = omega (arith, few) };
      of_entries = record { whole = whole_indexes entries (or_right (broken 4 starts) (broken 4 entries) a); few = columns_most (starts / 4) (entries / 4) sized };
      of_offsets = offsets_held n offsets columns splits few outputs says;
      of_columns = columns_held n offsets columns splits few outputs says;
      of_splits = splits_held n offsets columns splits few outputs says;
    }
