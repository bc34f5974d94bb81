-- `unchecked::copy` meets its promise: a turn writes the next value.
-- Assumes nothing.
use Rattle.std.proofs.Common.{◌<◌, length, arith}
use Rattle.std.specs.Float.{nan}
use Rattle.base.proofs.Each.{each_more}
use Rattle.vectors.specs.Vectors.{copy_at}
use Rattle.vectors.proofs.unchecked.copy.Goals as goal

pub loop-k-preserved : goal.loop-k-preserved
unfolding copy_at
loop-k-preserved c =
    let a = c.args in
    let inside : c.loop-k.k < length a.p.now = omega arith in
    rw c.loop-k.invariant (each_more (copy_at a.u.now) c.loop-k.k a.p.now nan inside)
