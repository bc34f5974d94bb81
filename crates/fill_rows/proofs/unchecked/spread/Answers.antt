-- `unchecked::spread` meets its promise: what is left of the pivot's entries leads where all of them lead.
-- Assumes nothing.
use Rattle.fill.proofs.Lists.{spread_more, spread_end}
use borrow.Author.Rules.{rules}
use Rattle.fill_rows.proofs.unchecked.spread.Goals as goal

pub loop-e-preserved : goal.loop-e-preserved
loop-e-preserved c =
    let a = c.args in
    spread_more a.k a.i a.a a.columns.now a.levels.now c.loop-e.e c.loop-e.row _ _ (search rules) (search rules) c.loop-e.invariant c.spread_one.ensures

pub returns : goal.returns
returns c = spread_end _ _ _ _ _ c.loop-e.e c.loop-e.row _ (search rules) c.loop-e.invariant
