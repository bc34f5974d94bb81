-- `outside` meets its promise: x is below the least number, or the last test decides.
-- Assumes nothing.
use borrow.Author.Tests.{lt-ltb, le-ltb}
use Rattle.answers.proofs.outside.Goals as goal

pub returns-then-x-least : goal.returns-then-x-least
returns-then-x-least c = rw (lt-ltb _ _ c.if-x-least.true)

pub returns : goal.returns
returns c = rw (le-ltb _ _ c.if-x-least.false)
