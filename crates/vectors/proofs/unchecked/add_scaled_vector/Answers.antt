-- `unchecked::add_scaled_vector` meets its promise: a turn writes the next value.
-- Assumes nothing.
use Rattle.std.proofs.Common.{◌<◌, length, arith}
use Rattle.std.specs.Float.{binary64, nan}
use Rattle.base.proofs.Each.{each_more}
use Rattle.vectors.specs.Vectors.{add_scaled_at}
use Rattle.vectors.proofs.unchecked.add_scaled_vector.Goals as goal

pub loop-k-preserved : goal.loop-k-preserved
unfolding add_scaled_at
loop-k-preserved c =
    let a = c.args in
    let inside : c.loop-k.k < length a.u.now = omega arith in
    rw c.loop-k.invariant (each_more (add_scaled_at binary64 a.alpha a.p.now) c.loop-k.k a.u.now nan inside)
