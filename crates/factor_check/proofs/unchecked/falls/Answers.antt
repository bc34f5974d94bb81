-- `unchecked::falls` meets its promise: after e turns the first e steps are counted.
-- Assumes nothing.
use mathlib.Core.Path.{sym}
use Prim.Native.Nat.{◌+◌}
use native.Mathlib.Omega.{arith}
use lib.Dec.{leb}
use lib.ListN.{get_or}
use borrow.Author.Rules.{rules}
use Rattle.factor_check.specs.Steps.{falls_at}
use Rattle.factor_check.proofs.CountLaws.{one_most, count_none, count_most}
use Rattle.factor_check.proofs.RowLaws.{falls_more, falls_end}
use Rattle.factor_check.proofs.unchecked.falls.Goals as goal

pub loop-e-init : goal.loop-e-init
loop-e-init c = (search rules, sym (count_none _))

pub overflow_add-count : goal.overflow_add-count
overflow_add-count c =
    let cs = c.args.columns.now in
    omega (arith, c.loop-e.invariant.1, count_most (falls_at cs) c.loop-e.e, c.one_if-count.ensures, one_most (leb (get_or cs (c.loop-e.e + 1) 0) (get_or cs c.loop-e.e 0)))

pub loop-e-preserved : goal.loop-e-preserved
loop-e-preserved c =
    (omega arith, falls_more c.args.columns.now c.loop-e.e _ c.loop-e.invariant.1 _ (search rules) c.one_if-count.ensures)

pub returns : goal.returns
returns c =
    falls_end c.args.columns.now c.loop-e.e _ c.loop-e.invariant.1 (search rules) (omega arith)
