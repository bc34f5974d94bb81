-- `unchecked::is_wrong_matrix` meets its promise: each return answers whether a length is wrong.
-- Assumes nothing.
use borrow.Author.Tests.{eq-eqb, ne_eqb}
use Rattle.copying.proofs.unchecked.is_wrong_matrix.Goals as goal

pub returns-then-values-size : goal.returns-then-values-size
returns-then-values-size g c = rw (ne_eqb _ _ (rw c.block_size-size.ensures.square at c.if-values-size.true))

pub returns : goal.returns
returns g c =
    let n = c.block_size-size.ensures.square in
    rw (n, eq-eqb _ _ (rw n at c.if-values-size.false))
