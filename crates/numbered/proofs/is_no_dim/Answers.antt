-- `is_no_dim` meets its promise, on its two ways out.
-- Assumes nothing.
use borrow.Author.Tests.{lt-ltb, le-ltb}
use Rattle.numbered.proofs.is_no_dim.Goals as goal

pub returns-then-dim-lt1 : goal.returns-then-dim-lt1
returns-then-dim-lt1 c = rw (lt-ltb _ _ c.if-dim-lt1.true)

pub returns : goal.returns
returns c = rw (le-ltb _ _ c.if-dim-lt1.false)
