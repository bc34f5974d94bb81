-- Every pattern that `initialize_iluk` writes passes `check_factor`.
-- Assumes nothing.
use mathlib.Core.Path.{◌≡◌, refl, sym}
use mathlib.Core.List.{List}
use Prim.Native.Nat.{ℕ, ◌+◌, ◌-◌, ◌<◌}
use native.Mathlib.Omega.{arith}
use lib.ListN.{length, get_or, take, replicate}
use lib.Seq.{take_at}
use borrow.Author.Tests.{ltb-false}
use Rattle.std.specs.Prelude.{Ok}
use Rattle.answers.specs.Checks.{first_of}
use Rattle.patterns.specs.Pattern.{rows_of, row_of}
use Rattle.patterns.specs.Checks.{factor_checks}
use Rattle.patterns.proofs.SizeLaws.{rows_least, rows_most}
use Rattle.fill.specs.Fill.{stored, fill_columns, fill_offsets, start_of}
use Rattle.fill.proofs.ColumnLaws.{In}
use Rattle.fill.proofs.DoneLaws.{zero_fails}
use Rattle.fill.proofs.JoinedLaws.{fill_row}
use Rattle.fill.proofs.FactorLaws.{listed_at}
use Rattle.fill.proofs.Passes.{fill_row_lem, fill_passes}
use Rattle.iluk.specs.Checks.{iluk_checks}
use Rattle.iluk.specs.Iluk.{Initialized}
use Rattle.iluk.proofs.AnswerLaws.{lengths_are}
use Rattle.iluk.proofs.Demand.{done_row}

module _ (k : ℕ) (starts entries offsets columns splits levels row offsets' columns' splits' levels' row' : List ℕ)
    (I : Initialized k starts entries offsets columns splits levels row (Ok tt) offsets' columns' splits' levels' row') where
  -- the columns up to the last offset: past them the room is clear
  pub done_columns : take (get_or offsets' (rows_of starts) 0) columns' ≡ fill_columns (stored starts entries) k (rows_of starts) (rows_of starts)
  unfolding fill_offsets start_of
  done_columns =
      let A = stored starts entries in
      let n : ℕ = rows_of starts in
      rw (I.offsets_are, I.columns_are)
      (take_at (fill_columns A k n n) (replicate (length columns - start_of A k n n) 0) (get_or (fill_offsets A k n) n 0) (sym (listed_at (start_of A k n) (n + 1) n (omega arith))))

  pub done_passes : first_of (factor_checks offsets' (take (get_or offsets' (rows_of starts) 0) columns') splits') ≡ 0
  done_passes =
      let n : ℕ = rows_of starts in
      let F = zero_fails (iluk_checks k starts entries (length offsets) (length columns) (length splits) (length levels) (length row)) refl (sym I.number) in
      let least = rows_least (length starts) (length entries) F.0 in
      let most = rows_most (length starts) (length entries) F.0 in
      let room = (lengths_are n (length offsets) (length columns) (length splits) (length levels) (length row) F.1.0).outputs.room in
      let fits = ltb-false (length columns) (start_of (stored starts entries) k n n) F.1.1.1.1.0 in
      rw (done_columns, I.offsets_are, I.splits_are) (fill_passes (stored starts entries) k n least most (omega arith))

  -- no row holds its own column
  pub no_own_column : (i : ℕ) → i < rows_of starts → In i (row_of offsets' columns' i) → ⊥
  no_own_column i h x =
      let A = stored starts entries in
      let y : In i (fill_row A k (rows_of starts) i) = rw (done_row k starts entries offsets columns splits levels row offsets' columns' splits' levels' row' I i h) at x in
      (fill_row_lem A k (rows_of starts) i).apart y.0 y.1 y.2
