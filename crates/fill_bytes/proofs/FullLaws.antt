-- `initialize_full` on bytes: what its lengths say, and how it ends.
-- Assumes nothing.
use mathlib.Core.Path.{◌≡◌, refl}
use mathlib.Core.List.{List, [], ◌∷◌}
use mathlib.Core.Bool.{Bool}
use Prim.Native.Nat.{ℕ, ◌/◌, ◌≤◌}
use native.Mathlib.Omega.{arith}
use lib.Dec.{ltb}
use lib.ListN.{length}
use borrow.Author.Tests.{ltb-false}
use Rattle.base.proofs.All.{or_right}
use Rattle.answers.specs.Checks.{◌when◌, first_of}
use Rattle.answers.specs.Limits.{rows_out_of_range}
use Rattle.fill.specs.Promise.{wrong_outputs}
use Rattle.fill.proofs.OutputLaws.{outputs_are}
use Rattle.full.specs.Full.{full_offsets, full_splits, full_checks}
use Rattle.wire.specs.Words.{bytes_of_indexes}
use Rattle.fill_way.specs.Promise.{Wrote, full_columns_in}
use Rattle.fill_way.specs.Ways.{WroteBytes, HeldFill}
use Rattle.fill_way.specs.declared.unchecked.Call.TheVariants.{Full}
use Rattle.fill_bytes.specs.Checks.{broken_outputs, full_byte_checks, length_checks}
use Rattle.fill_bytes.proofs.EndLaws.{none_of_lengths, refused, decided, offsets_held, columns_held, splits_held}

module _ (n : ℕ) (o cs ss : List ℕ) where
  abbrev torn : Bool
  torn = broken_outputs (length o) (length cs) (length ss)

  abbrev wrong : Bool
  wrong = wrong_outputs n (length o / 4) (length cs / 4) (length ss / 4)

  pub full_refused : (number : ℕ) → number ≡ first_of (length_checks (rows_out_of_range n) torn wrong) → (number ≡ 0 → ⊥)
      → Wrote (full_byte_checks n (length o) (length cs) (length ss)) number
      (bytes_of_indexes (full_offsets n)) (bytes_of_indexes (full_columns_in n (length cs / 4))) (bytes_of_indexes (full_splits n)) o cs ss o cs ss
  full_refused number is other = refused number _ _ _ o cs ss (rows_out_of_range n) torn wrong _ is other

  module _ (zero_is : first_of (length_checks (rows_out_of_range n) torn wrong) ≡ 0) where
    -- no bytes are lent of A
    pub full_held : HeldFill 4096 65535 65535 0 0 (length o) (length cs) (length ss)
    full_held =
        let fine = none_of_lengths (rows_out_of_range n) torn wrong zero_is in
        let few : n ≤ 4096 = ltb-false 4096 n (or_right (ltb n 1) (ltb 4096 n) fine.0) in
        let says = outputs_are n (length o / 4) (length cs / 4) (length ss / 4) fine.2 in
        record {
          of_starts = record { whole = refl; few = omega arith };
          of_entries = record { whole = refl; few = omega arith };
          of_offsets = offsets_held n (length o) (length cs) (length ss) few fine.1 says;
          of_columns = columns_held n (length o) (length cs) (length ss) few fine.1 says;
          of_splits = splits_held n (length o) (length cs) (length ss) few fine.1 says;
        }

    pub full_decided : (number : ℕ) (o' cs' ss' : List ℕ) → WroteBytes Full n [] [] o cs ss number o' cs' ss'
        → Wrote (full_byte_checks n (length o) (length cs) (length ss)) number
        (bytes_of_indexes (full_offsets n)) (bytes_of_indexes (full_columns_in n (length cs / 4))) (bytes_of_indexes (full_splits n)) o cs ss o' cs' ss'
    full_decided number o' cs' ss' w =
        let fine = none_of_lengths (rows_out_of_range n) torn wrong zero_is in
        let checks = full_checks n (length o / 4) (length cs / 4) (length ss / 4) in
        decided number _ _ _ o cs ss ((1 when rows_out_of_range n) ∷ (2 when torn) ∷ []) checks checks o' cs' ss' (rw (fine.0, fine.1)) refl w
