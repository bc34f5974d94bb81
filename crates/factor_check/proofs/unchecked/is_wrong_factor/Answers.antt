-- `unchecked::is_wrong_factor` meets its promise: each return answers whether a length is wrong.
-- Assumes nothing.
use borrow.Author.Tests.{eq-eqb, ne_eqb}
use Rattle.factor_check.proofs.unchecked.is_wrong_factor.Goals as goal

pub returns-then-values-size : goal.returns-then-values-size
returns-then-values-size g c = rw (ne_eqb _ _ (rw c.block_size-size.ensures.square at c.if-values-size.true))

pub returns-then-diagonal-size : goal.returns-then-diagonal-size
returns-then-diagonal-size g c =
    let n = c.block_size-size.ensures.square in
    rw (eq-eqb _ _ (rw n at c.if-values-size.false), ne_eqb _ _ (rw n at c.if-diagonal-size.true))

pub returns : goal.returns
returns g c =
    let n = c.block_size-size.ensures.square in
    rw (eq-eqb _ _ (rw n at c.if-values-size.false), eq-eqb _ _ (rw n at c.if-diagonal-size.false))
