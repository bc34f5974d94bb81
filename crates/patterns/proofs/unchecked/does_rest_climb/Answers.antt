-- `unchecked::does_rest_climb` meets its promise: what is left of the row decides as all of it did.
-- Assumes nothing.
use mathlib.Core.Path.{◌∙◌}
use borrow.Author.Tests.{ne_eqb, lt-ltb, le-leb}
use Rattle.patterns.proofs.ClimbLaws.{one_on}
use borrow.Author.Rules.{rules}
use Rattle.patterns.proofs.unchecked.does_rest_climb.Goals as goal

pub loop-column-preserved : goal.loop-column-preserved
loop-column-preserved c =
    let a = c.args in
    c.loop-column.invariant
    ∙ one_on a.n a.own c.loop-column.least a.rest.now c.loop-column.column-index (search rules)
    (rw (le-leb _ _ c.if-column-least.false, ne_eqb _ _ c.if-column-own.false, lt-ltb _ _ c.if-column-n.false))
