-- `unchecked::row_falls` meets its promise: three tests at once, or the way for any row.
-- Assumes nothing.
use native.Mathlib.Omega.{arith}
use Rattle.factor_check.proofs.RowLaws.{common_right}
use Rattle.factor_check.proofs.unchecked.row_falls.Goals as goal

pub returns-then-not-right : goal.returns-then-not-right
returns-then-not-right c = λ h. absurd (omega (arith, h))

pub returns-then-to-columns : goal.returns-then-to-columns
returns-then-to-columns c = λ h.
    let a = c.args in
    common_right a.n a.own a.from a.split a.to a.columns.now _ c.if-from-split.true c.if-split-to.true c.if-to-columns.true
    c.if-not-right.false c.one_if.ensures

pub returns : goal.returns
returns c = c.other_row_falls.ensures
