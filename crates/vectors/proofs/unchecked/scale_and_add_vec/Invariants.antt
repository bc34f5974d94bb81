-- `unchecked::scale_and_add_vec` meets its promise: after so many turns as many values are the new ones.
-- Assumes nothing.
use Rattle.std.proofs.Common.{◌≡◌}
use Rattle.std.specs.Float.{binary64}
use Rattle.base.specs.Each.{each_to}
use Rattle.vectors.specs.Vectors.{scale_add_at}
use Rattle.vectors.proofs.unchecked.scale_and_add_vec.Given as goal

abbrev pub invariant-loop-k : goal.invariant-loop-k
invariant-loop-k l = l.p ≡ each_to (scale_add_at binary64 l.beta l.r) l.k l.fn.p
