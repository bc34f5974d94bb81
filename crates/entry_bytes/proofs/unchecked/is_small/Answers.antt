-- `is_small` meets its promise, on its two ways out.
-- Assumes nothing.
use borrow.Author.Tests.{le-leb, lt-leb}
use Rattle.entry_bytes.proofs.unchecked.is_small.Goals as goal

pub returns-then-offsets-gt17 : goal.returns-then-offsets-gt17
returns-then-offsets-gt17 c = rw (lt-leb _ _ c.if-offsets-gt17.true)

pub returns : goal.returns
returns c = rw (le-leb _ _ c.if-offsets-gt17.false)
