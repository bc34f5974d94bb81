-- `square_root` meets its promise: after i turns the first i values are roots.
-- Assumes nothing.
use Prim.Native.Nat.{◌<◌}
use native.Mathlib.Omega.{arith}
use lib.ListN.{length}
use lib.Ieee.{binary64, nan}
use Rattle.base.proofs.Each.{each_more}
use Rattle.timed_blocks.specs.Timed.{root_at}
use Rattle.timed_blocks.proofs.square_root.Goals as goal

pub loop-i-preserved : goal.loop-i-preserved
unfolding root_at
loop-i-preserved c =
    let a = c.args in
    let h : c.loop-i.i < length a.out.now = omega arith in
    rw (c.loop-i.invariant, c.square_root.ensures.0) (each_more (root_at binary64 a.x.now) c.loop-i.i a.out.now nan h)
