-- `unchecked::add_scaled_vector` meets its promise: after so many turns as many values are the new ones.
-- Assumes nothing.
use Rattle.std.proofs.Common.{◌≡◌}
use Rattle.std.specs.Float.{binary64}
use Rattle.base.specs.Each.{each_to}
use Rattle.vectors.specs.Vectors.{add_scaled_at}
use Rattle.vectors.proofs.unchecked.add_scaled_vector.Given as goal

abbrev pub invariant-loop-k : goal.invariant-loop-k
invariant-loop-k l = l.u ≡ each_to (add_scaled_at binary64 l.alpha l.p) l.k l.fn.u
