-- `unchecked::copy` meets its promise: after k turns the first k words are copied.
-- Assumes nothing.
use Rattle.std.proofs.Common.{◌≡◌, take}
use Rattle.fill.specs.Steps.{over}
use Rattle.ilu0.proofs.unchecked.copy.Given as goal

abbrev pub invariant-loop-k : goal.invariant-loop-k
invariant-loop-k l = l.to ≡ over (take l.k l.from) l.fn.to
