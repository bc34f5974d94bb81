-- `unchecked::set_fixed` meets its promise: after so many turns as many values are the new ones.
-- Assumes nothing.
use Rattle.std.proofs.Common.{◌≡◌}
use Rattle.std.specs.Float.{binary64}
use Rattle.base.specs.Each.{each_to}
use Rattle.vectors.specs.Vectors.{fix_at}
use Rattle.vectors.proofs.unchecked.set_fixed.Given as goal

abbrev pub invariant-loop-k : goal.invariant-loop-k
invariant-loop-k l = l.values ≡ each_to (fix_at binary64 l.flags) l.k l.fn.values
