-- `unchecked::has_valid_splits` meets its promise: the part that is lent is the row, and the rows so far are right.
-- Assumes nothing.
use mathlib.Core.Path.{◌≡◌, refl, sym, ◌∙◌}
use native.Mathlib.Omega.{arith}
use Rattle.base.proofs.All.{all_stop}
use Rattle.patterns.proofs.FactorLaws.{factor_row_at, all_rows, row_tested}
use Rattle.patterns.proofs.unchecked.has_valid_splits.Goals as goal

pub returns-then-not-is_factor_row : goal.returns-then-not-is_factor_row
returns-then-not-is_factor_row c =
    -- what the row's test finds is said of the row
    let tested : (let a = c.args in
    c.is_factor_row.result ≡ factor_row_at a.offsets.now a.columns.now a.splits.now c.loop-i.i) = let a = c.args in
    row_tested a.offsets.now a.columns.now a.splits.now c.loop-i.i _ _ _ _ refl refl refl c.is_factor_row.ensures in
    let a = c.args in
    sym (all_rows a.offsets.now a.columns.now a.splits.now
    ∙ all_stop (factor_row_at a.offsets.now a.columns.now a.splits.now) c.loop-i.i _ (omega arith) (sym tested ∙ c.if-not-is_factor_row.true))
