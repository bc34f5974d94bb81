-- `is_broken_work` meets its promise: the levels decide first, then the row.
-- Assumes nothing.
use borrow.Author.Tests.{eq-eqb, ne_eqb}
use Rattle.fill_bytes.proofs.is_broken_work.Goals as goal

pub returns-then-levels-ne0 : goal.returns-then-levels-ne0
returns-then-levels-ne0 c = rw (ne_eqb _ _ c.if-levels-ne0.true)

pub returns : goal.returns
returns c = rw (eq-eqb _ _ c.if-levels-ne0.false) c.is_broken_index.ensures
