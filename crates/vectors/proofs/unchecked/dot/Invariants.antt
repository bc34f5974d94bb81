-- `unchecked::dot` meets its promise: after i turns the sum is that of the first i rows.
-- Assumes nothing.
use Rattle.std.proofs.Common.{◌≡◌}
use Rattle.std.specs.Float.{binary64}
use Rattle.vectors.specs.Vectors.{dot_to}
use Rattle.vectors.proofs.unchecked.dot.Given as goal

abbrev pub invariant-loop-i : goal.invariant-loop-i
invariant-loop-i g l = l.sum ≡ dot_to binary64 g.S.Size.DIM l.u l.v l.i
