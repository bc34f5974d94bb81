-- `unchecked::row_dot` meets its promise: after k turns the sum has the first k products.
-- Assumes nothing.
use Rattle.std.proofs.Common.{◌≡◌, ◌+◌, get_or}
use Rattle.std.specs.Float.{binary64, nan}
use Rattle.std.specs.Float.Ieee.{mul}
use Rattle.blocks.specs.Block.{sum_to}
use Rattle.vectors.proofs.unchecked.row_dot.Given as goal

abbrev pub invariant-loop-k : goal.invariant-loop-k
invariant-loop-k g l =
    l.sum ≡ sum_to binary64 l.k (λ k. mul binary64 (get_or l.u (l.first + k) nan) (get_or l.v (l.first + k) nan))
