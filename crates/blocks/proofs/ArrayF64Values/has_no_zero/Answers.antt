-- `has_no_zero` meets its promise: a turn tests one value more.
-- Assumes nothing.
use Rattle.std.proofs.Common.{refl, add-one}
use Rattle.std.specs.Float.Ieee.{ne}
use Rattle.base.specs.All.{all_to}
use Rattle.blocks.proofs.ArrayF64Values.has_no_zero.Goals as goal

pub loop-k-preserved : goal.loop-k-preserved
unfolding all_to ne
loop-k-preserved g c = rw (c.loop-k.invariant, add-one) refl
