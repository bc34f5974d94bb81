-- `unchecked::is_small` meets its promise: the first slice that is too long decides.
-- Assumes nothing.
use borrow.Author.Tests.{lt-leb, le-leb}
use Rattle.fill_way.proofs.unchecked.is_small.Goals as goal

pub returns-then-starts-gt68 : goal.returns-then-starts-gt68
returns-then-starts-gt68 c = rw (lt-leb _ _ c.if-starts-gt68.true)

pub returns-then-entries-gt256 : goal.returns-then-entries-gt256
returns-then-entries-gt256 c = rw (le-leb _ _ c.if-starts-gt68.false, lt-leb _ _ c.if-entries-gt256.true)

pub returns-then-offsets-gt68 : goal.returns-then-offsets-gt68
returns-then-offsets-gt68 c = rw (le-leb _ _ c.if-starts-gt68.false, le-leb _ _ c.if-entries-gt256.false, lt-leb _ _ c.if-offsets-gt68.true)

pub returns-then-columns-gt1024 : goal.returns-then-columns-gt1024
returns-then-columns-gt1024 c = rw (le-leb _ _ c.if-starts-gt68.false, le-leb _ _ c.if-entries-gt256.false, le-leb _ _ c.if-offsets-gt68.false, lt-leb _ _ c.if-columns-gt1024.true)

pub returns : goal.returns
returns c = rw (le-leb _ _ c.if-starts-gt68.false, le-leb _ _ c.if-entries-gt256.false, le-leb _ _ c.if-offsets-gt68.false, le-leb _ _ c.if-columns-gt1024.false)
