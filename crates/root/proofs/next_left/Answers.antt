-- `root::next_left` meets its contract.
-- Assumes nothing.
use borrow.Author.Tests.{le-leb, lt-leb}
use Rattle.root.proofs.next_left.Goals as goal

pub returns-then-left-price : goal.returns-then-left-price
returns-then-left-price c = rw (le-leb _ _ c.if-left-price.true)

pub returns-else-left-price : goal.returns-else-left-price
returns-else-left-price c = rw (lt-leb _ _ c.if-left-price.false)
