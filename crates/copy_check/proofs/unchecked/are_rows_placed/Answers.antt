-- `unchecked::are_rows_placed` meets its promise: after i turns the first i rows are placed, and every mark is below the next stamp.
-- Assumes nothing.
use mathlib.Core.Path.{refl}
use native.Mathlib.Omega.{arith}
use Rattle.copy_check.proofs.LookLaws.{low}
use Rattle.copy_check.proofs.PlacedLaws.{row_is, rows_more}
use Rattle.copy_check.proofs.unchecked.are_rows_placed.Goals as goal

pub is_row_placed-requires : goal.is_row_placed-requires
is_row_placed-requires c =
    let a = c.args in
    let part = row_is a.offsets.now a.columns.now c.loop-i.i _ _ refl refl in (
      c.next_stamp-stamp.ensures.0,
      c.next_stamp-stamp.ensures.1,
      rw part (low a.offsets.now a.columns.now c.requires.4 (omega (arith, c.requires.1, c.requires.2)) c.loop-i.i (omega (arith, c.requires.2))),
    )

pub loop-i-preserved : goal.loop-i-preserved
loop-i-preserved c =
    let a = c.args in
    let row = c.is_row_placed.ensures c.if-not-is_row_placed.false in (
      row.0,
      rows_more a.starts.now a.entries.now a.offsets.now a.columns.now c.loop-i.i _ _ _ _ refl refl refl refl row.1 c.loop-i.invariant.1,
    )
