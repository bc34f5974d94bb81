-- `unchecked::scale_and_add_vec` meets its promise: a turn writes the next value.
-- Assumes nothing.
use Rattle.std.proofs.Common.{◌<◌, length, arith}
use Rattle.std.specs.Float.{binary64, nan}
use Rattle.base.proofs.Each.{each_more}
use Rattle.vectors.specs.Vectors.{scale_add_at}
use Rattle.vectors.proofs.unchecked.scale_and_add_vec.Goals as goal

pub loop-k-preserved : goal.loop-k-preserved
unfolding scale_add_at
loop-k-preserved c =
    let a = c.args in
    let inside : c.loop-k.k < length a.p.now = omega arith in
    rw c.loop-k.invariant (each_more (scale_add_at binary64 a.beta a.r.now) c.loop-k.k a.p.now nan inside)
