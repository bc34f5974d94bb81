-- `initialize_ilu0` on bytes: what its lengths say, and how it ends.
-- Assumes nothing.
use mathlib.Core.Path.{◌≡◌, refl}
use mathlib.Core.List.{List}
use mathlib.Core.Bool.{Bool}
use Prim.Native.Nat.{ℕ, ◌-◌, ◌/◌}
use lib.ListN.{length}
use Rattle.answers.specs.Checks.{Check, first_of}
use Rattle.patterns.specs.Checks.{too_large}
use Rattle.fill.specs.Promise.{wrong_outputs}
use Rattle.fill.proofs.OutputLaws.{outputs_are}
use Rattle.ilu0.specs.Ilu0.{sorted_splits, ilu0_checks}
use Rattle.wire.specs.Words.{indexes_in, bytes_of_indexes}
use Rattle.wire.proofs.WordLaws.{length_indexes}
use Rattle.pattern_bytes.specs.Checks.{byte_checks}
use Rattle.fill_way.specs.Promise.{Wrote, ilu0_columns}
use Rattle.fill_way.specs.Ways.{WroteBytes, HeldFill}
use Rattle.fill_way.specs.declared.unchecked.Call.TheVariants.{Ilu0}
use Rattle.fill_bytes.specs.Checks.{broken_fill, ilu0_byte_checks, length_checks}
use Rattle.fill_bytes.proofs.EndLaws.{none_of_lengths, refused, decided, fill_held}

module _ (starts entries o cs ss : List ℕ) where
  abbrev large : Bool
  large = too_large (length starts / 4) (length entries / 4)

  abbrev torn : Bool
  torn = broken_fill (length starts) (length entries) (length o) (length cs) (length ss)

  abbrev wrong : Bool
  wrong = wrong_outputs (length starts / 4 - 1) (length o / 4) (length cs / 4) (length ss / 4)

  pub ilu0_refused : (number : ℕ) → number ≡ first_of (length_checks large torn wrong) → (number ≡ 0 → ⊥)
      → Wrote (ilu0_byte_checks starts entries (length o) (length cs) (length ss)) number (bytes_of_indexes (indexes_in starts))
      (bytes_of_indexes (ilu0_columns (indexes_in starts) (indexes_in entries) (length cs / 4))) (bytes_of_indexes (sorted_splits (indexes_in starts) (indexes_in entries))) o cs ss o cs ss
  ilu0_refused number is other =
      rw (length_indexes starts, length_indexes entries) (refused number _ _ _ o cs ss large torn wrong _ is other)

  module _ (zero_is : first_of (length_checks large torn wrong) ≡ 0) where
    pub ilu0_held : HeldFill 4096 65535 65535 (length starts) (length entries) (length o) (length cs) (length ss)
    ilu0_held =
        let fine = none_of_lengths large torn wrong zero_is in
        fill_held (length starts) (length entries) (length o) (length cs) (length ss) fine.0 fine.1
        (outputs_are (length starts / 4 - 1) (length o / 4) (length cs / 4) (length ss / 4) fine.2)

    pub ilu0_decided : (k number : ℕ) (o' cs' ss' : List ℕ) → WroteBytes Ilu0 k starts entries o cs ss number o' cs' ss'
        → Wrote (ilu0_byte_checks starts entries (length o) (length cs) (length ss)) number (bytes_of_indexes (indexes_in starts))
        (bytes_of_indexes (ilu0_columns (indexes_in starts) (indexes_in entries) (length cs / 4))) (bytes_of_indexes (sorted_splits (indexes_in starts) (indexes_in entries))) o cs ss o' cs' ss'
    ilu0_decided k number o' cs' ss' w =
        let fine = none_of_lengths large torn wrong zero_is in
        let checks : List Check = ilu0_checks (indexes_in starts) (indexes_in entries) (length o / 4) (length cs / 4) (length ss / 4) in
        decided number _ _ _ o cs ss (byte_checks (length starts) (length entries) torn) checks checks o' cs' ss' (rw (fine.0, fine.1)) refl w
