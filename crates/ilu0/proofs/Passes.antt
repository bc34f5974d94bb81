-- Every pattern that `initialize_ilu0` writes passes `check_factor`.
-- Assumes nothing.
use mathlib.Core.Path.{◌≡◌, sym, ap, ◌∙◌}
use mathlib.Core.Bool.{true, false}
use mathlib.Core.List.{List}
use Prim.Native.Nat.{ℕ, ◌-◌, ◌≤◌}
use native.Mathlib.Omega.{arith}
use lib.ListN.{length, get_or, take, replicate}
use lib.Seq.{take_at}
use Rattle.std.specs.Prelude.{Ok}
use Rattle.answers.specs.Checks.{first_of}
use Rattle.patterns.specs.Pattern.{rows_of, valid_pattern}
use Rattle.patterns.specs.Checks.{too_large, factor_checks}
use Rattle.patterns.proofs.OffsetLaws.{pattern_offsets, offsets_last}
use Rattle.patterns.proofs.SizeLaws.{rows_least, rows_most, columns_most}
use Rattle.fill.specs.Fill.{stored, start_of}
use Rattle.fill.proofs.Passes.{fill_passes}
use Rattle.ilu0.specs.Ilu0.{sorted_rows, sorted_splits, Sorted}
use Rattle.ilu0.proofs.AtZero.{offsets_at_zero, columns_at_zero, splits_at_zero, entries_at_zero}
use Rattle.ilu0.proofs.AsIluk.{sized, valid}

module _ (starts entries : List ℕ) (sized : too_large (length starts) (length entries) ≡ false) (valid : valid_pattern starts entries ≡ true) where
  some_rows : 1 ≤ rows_of starts
  some_rows = rows_least (length starts) (length entries) sized

  -- the sorted rows end where the last offset says
  sorted_length : length (sorted_rows starts entries (rows_of starts)) ≡ get_or starts (rows_of starts) 0
  unfolding start_of
  sorted_length =
      ap length (sym (columns_at_zero starts entries valid some_rows)) ∙ entries_at_zero starts entries valid some_rows
      ∙ sym (offsets_last starts entries (pattern_offsets starts entries valid))

  pub sorted_passes : first_of (factor_checks starts (sorted_rows starts entries (rows_of starts)) (sorted_splits starts entries)) ≡ 0
  sorted_passes =
      let few = columns_most (length starts) (length entries) sized in
      rw (offsets_at_zero starts entries valid some_rows, columns_at_zero starts entries valid some_rows, splits_at_zero starts entries valid some_rows) at
      (fill_passes (stored starts entries) 0 (rows_of starts) some_rows (rows_most (length starts) (length entries) sized) (omega (arith, entries_at_zero starts entries valid some_rows)))

module _ (starts entries offsets columns splits offsets' columns' splits' : List ℕ) (S : Sorted starts entries offsets columns splits (Ok tt) offsets' columns' splits') where
  not_large : too_large (length starts) (length entries) ≡ false
  not_large = sized starts entries (length offsets) (length columns) (length splits) (sym S.number)

  is_valid_lem : valid_pattern starts entries ≡ true
  is_valid_lem = valid starts entries (length offsets) (length columns) (length splits) (sym S.number)

  -- the columns up to the last offset: past them the room is clear
  pub done_columns : take (get_or offsets' (rows_of starts) 0) columns' ≡ sorted_rows starts entries (rows_of starts)
  done_columns =
      let n : ℕ = rows_of starts in
      rw (S.offsets_are, S.columns_are)
      (take_at (sorted_rows starts entries n) (replicate (length columns - length entries) 0) (get_or starts n 0) (sorted_length starts entries not_large is_valid_lem))

  pub done_passes : first_of (factor_checks offsets' (take (get_or offsets' (rows_of starts) 0) columns') splits') ≡ 0
  done_passes = rw (done_columns, S.offsets_are, S.splits_are) (sorted_passes starts entries not_large is_valid_lem)
