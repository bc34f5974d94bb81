-- `unchecked::is_right_run` meets its promise: the part that is lent is the row, every mark is below the next stamp, the rows so far are right, and the next begins where they end.
-- Assumes nothing.
use mathlib.Core.Path.{refl, sym}
use native.Mathlib.Omega.{arith}
use Rattle.patterns.specs.Steps.{row_right, rows_right}
use Rattle.patterns.proofs.RowLaws.{rows_more, rows_stop}
use borrow.Author.Rules.{rules}
use Rattle.patterns.proofs.unchecked.is_right_run.Goals as goal

pub returns-then-not-is_right_row : goal.returns-then-not-is_right_row
unfolding rows_right
returns-then-not-is_right_row c =
    let a = c.args in
    sym (rows_stop (row_right a.refused) a.offsets.now a.columns.now c.loop-i.i _ _ _ c.loop-i.invariant.3 refl c.is_right_row.ensures.0
    a.end (search rules) c.if-not-is_right_row.true)

pub loop-i-preserved : goal.loop-i-preserved
unfolding rows_right
loop-i-preserved c =
    let a = c.args in (
      omega arith,
      c.is_right_row.ensures.1,
      rows_more (row_right a.refused) a.offsets.now a.columns.now c.loop-i.i _ _ _ c.loop-i.invariant.3 refl c.is_right_row.ensures.0
          c.loop-i.invariant.2 c.if-not-is_right_row.false,
      refl,
    )
