-- `is_many` meets its promise, on its two ways out.
-- Assumes nothing.
use borrow.Author.Tests.{lt-ltb, le-ltb}
use Rattle.matrix_bytes.proofs.is_many.Goals as goal

pub returns-then-offsets-gt68 : goal.returns-then-offsets-gt68
returns-then-offsets-gt68 c = rw (lt-ltb _ _ c.if-offsets-gt68.true)

pub returns : goal.returns
returns c = rw (le-ltb _ _ c.if-offsets-gt68.false)
