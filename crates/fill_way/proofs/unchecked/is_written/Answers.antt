-- `unchecked::is_written` meets its promise: 0, 4 and 5 are the numbers of calls that write.
-- Assumes nothing.
use borrow.Author.Tests.{eq-eqb, ne_eqb}
use Rattle.fill_way.proofs.unchecked.is_written.Goals as goal

pub returns-then-number-eq0 : goal.returns-then-number-eq0
returns-then-number-eq0 c = rw (eq-eqb _ _ c.if-number-eq0.true)

pub returns-then-number-eq4 : goal.returns-then-number-eq4
returns-then-number-eq4 c = rw (ne_eqb _ _ c.if-number-eq0.false, eq-eqb _ _ c.if-number-eq4.true)

pub returns : goal.returns
returns c = rw (ne_eqb _ _ c.if-number-eq0.false, ne_eqb _ _ c.if-number-eq4.false)
