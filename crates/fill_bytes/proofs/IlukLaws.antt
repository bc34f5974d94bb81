-- `initialize_iluk` on bytes: what its lengths say, and how it ends.
-- Assumes nothing.
use mathlib.Core.Path.{◌≡◌, sym, ap, ◌∙◌}
use mathlib.Core.List.{List}
use mathlib.Core.Bool.{Bool, ◌||◌}
use Prim.Native.Nat.{ℕ, ◌-◌, ◌/◌}
use lib.ListN.{length}
use Rattle.base.proofs.All.{or_left}
use Rattle.answers.specs.Checks.{Check, first_of}
use Rattle.patterns.specs.Checks.{too_large}
use Rattle.iluk.specs.Checks.{wrong_lengths, iluk_checks}
use Rattle.iluk.proofs.AnswerLaws.{Lengths, lengths_are}
use Rattle.wire.specs.Words.{indexes_in, bytes_of_indexes}
use Rattle.wire.proofs.WordLaws.{length_indexes}
use Rattle.pattern_bytes.specs.Checks.{broken, byte_checks}
use Rattle.fill_bytes.specs.Checks.{broken_fill, broken_iluk, iluk_byte_checks, length_checks}
use Rattle.fill_way.specs.Promise.{Wrote, Cleared, iluk_offsets, iluk_columns, iluk_splits}
use Rattle.fill_way.specs.Ways.{WroteBytes, HeldFill}
use Rattle.fill_way.specs.declared.unchecked.Call.TheVariants.{Iluk}
use Rattle.fill_bytes.proofs.EndLaws.{none_of_lengths, refused, decided, work_kept, fill_held}

module _ (k : ℕ) (starts entries o cs ss ls row : List ℕ) where
  abbrev large : Bool
  large = too_large (length starts / 4) (length entries / 4)

  abbrev torn : Bool
  torn = broken_iluk (length starts) (length entries) (length o) (length cs) (length ss) (length ls) (length row)

  abbrev wrong : Bool
  wrong = wrong_lengths (length starts / 4 - 1) (length o / 4) (length cs / 4) (length ss / 4) (length ls / 2) (length row / 4)

  -- by the lengths of the work
  abbrev checks : ℕ → ℕ → List Check
  checks = iluk_checks k (indexes_in starts) (indexes_in entries) (length o / 4) (length cs / 4) (length ss / 4)

  pub iluk_refused : (number : ℕ) → number ≡ first_of (length_checks large torn wrong) → (number ≡ 0 → ⊥)
      → (Wrote (iluk_byte_checks k starts entries (length o) (length cs) (length ss) (length ls) (length row)) number
      (bytes_of_indexes (iluk_offsets k (indexes_in starts) (indexes_in entries))) (bytes_of_indexes (iluk_columns k (indexes_in starts) (indexes_in entries) (length cs / 4)))
      (bytes_of_indexes (iluk_splits k (indexes_in starts) (indexes_in entries))) o cs ss o cs ss) × (Cleared number ls row ls row)
  iluk_refused number is other =
      (rw (length_indexes starts, length_indexes entries) (refused number _ _ _ o cs ss large torn wrong _ is other), work_kept large torn wrong number ls row is other)

  module _ (zero_is : first_of (length_checks large torn wrong) ≡ 0) where
    says : Lengths (length starts / 4 - 1) (length o / 4) (length cs / 4) (length ss / 4) (length ls / 2) (length row / 4)
    says = lengths_are _ _ _ _ _ _ (none_of_lengths large torn wrong zero_is).2

    pub iluk_held : HeldFill 4096 65535 65535 (length starts) (length entries) (length o) (length cs) (length ss)
    iluk_held =
        let fine = none_of_lengths large torn wrong zero_is in
        fill_held (length starts) (length entries) (length o) (length cs) (length ss) fine.0
        (or_left (broken_fill (length starts) (length entries) (length o) (length cs) (length ss)) (broken 2 (length ls) || broken 4 (length row)) fine.1) says.outputs

    pub iluk_decided : (number : ℕ) (o' cs' ss' : List ℕ) → WroteBytes Iluk k starts entries o cs ss number o' cs' ss'
        → Wrote (iluk_byte_checks k starts entries (length o) (length cs) (length ss) (length ls) (length row)) number
        (bytes_of_indexes (iluk_offsets k (indexes_in starts) (indexes_in entries))) (bytes_of_indexes (iluk_columns k (indexes_in starts) (indexes_in entries) (length cs / 4)))
        (bytes_of_indexes (iluk_splits k (indexes_in starts) (indexes_in entries))) o cs ss o' cs' ss'
    iluk_decided number o' cs' ss' w =
        let fine = none_of_lengths large torn wrong zero_is in
        decided number _ _ _ o cs ss (byte_checks (length starts) (length entries) torn) (checks (length cs / 4) (length ss / 4)) (checks (length ls / 2) (length row / 4)) o' cs' ss' (rw (fine.0, fine.1))
        (ap (λ (n : ℕ). first_of (checks n (length ss / 4))) (sym says.levels) ∙ ap (λ (n : ℕ). first_of (checks (length ls / 2) n)) (says.outputs.splits_long ∙ sym says.rows)) w
