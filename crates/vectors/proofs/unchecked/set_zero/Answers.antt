-- `unchecked::set_zero` meets its promise: a turn writes the next value.
-- Assumes nothing.
use Rattle.std.proofs.Common.{◌<◌, length, arith}
use Rattle.std.specs.Float.{binary64, nan}
use Rattle.base.proofs.Each.{each_more}
use Rattle.vectors.specs.Vectors.{zero_at}
use Rattle.vectors.proofs.unchecked.set_zero.Goals as goal

pub loop-x-preserved : goal.loop-x-preserved
unfolding zero_at
loop-x-preserved c =
    let a = c.args in
    let inside : c.loop-x.x-index < length a.p.now = omega arith in
    rw c.loop-x.invariant (each_more (zero_at binary64) c.loop-x.x-index a.p.now nan inside)
