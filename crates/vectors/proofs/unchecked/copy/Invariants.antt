-- `unchecked::copy` meets its promise: after so many turns as many values are those of u.
-- Assumes nothing.
use Rattle.std.proofs.Common.{◌≡◌}
use Rattle.base.specs.Each.{each_to}
use Rattle.vectors.specs.Vectors.{copy_at}
use Rattle.vectors.proofs.unchecked.copy.Given as goal

abbrev pub invariant-loop-k : goal.invariant-loop-k
invariant-loop-k l = l.p ≡ each_to (copy_at l.u) l.k l.fn.p
