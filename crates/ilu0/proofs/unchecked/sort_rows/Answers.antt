-- `unchecked::sort_rows` meets its promise: before row i the rows below it are sorted, and their splits are set.
-- Assumes nothing.
use mathlib.Core.Path.{refl}
use Rattle.ilu0.proofs.RowLaws.{going_start, going_more, going_end}
use borrow.Author.Rules.{rules}
use Rattle.ilu0.proofs.unchecked.sort_rows.Goals as goal

pub loop-i-init : goal.loop-i-init
loop-i-init c = (refl, c.requires, going_start _ _ _)

pub loop-i-preserved : goal.loop-i-preserved
loop-i-preserved c =
    let l = c.loop-i in
    (search rules, l.invariant.1, going_more l.invariant.2 l.invariant.1 _ _ _ _ _ _ c.loop-i-test.true refl refl c.sort.ensures refl c.first_above-lower.ensures.0 refl)

pub returns : goal.returns
returns c = going_end c.loop-i.invariant.2 c.loop-i.invariant.1 c.loop-i-test.false
