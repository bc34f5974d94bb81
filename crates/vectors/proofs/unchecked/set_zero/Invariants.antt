-- `unchecked::set_zero` meets its promise: after so many turns as many values are the new ones.
-- Assumes nothing.
use Rattle.std.proofs.Common.{◌≡◌}
use Rattle.std.specs.Float.{binary64}
use Rattle.base.specs.Each.{each_to}
use Rattle.vectors.specs.Vectors.{zero_at}
use Rattle.vectors.proofs.unchecked.set_zero.Given as goal

abbrev pub invariant-loop-x : goal.invariant-loop-x
invariant-loop-x l = l.p ≡ each_to (zero_at binary64) l.x-index l.fn.p
