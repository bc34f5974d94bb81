-- `unchecked::set_fixed` meets its promise: a turn writes the next value.
-- Assumes nothing.
use Rattle.std.proofs.Common.{◌≡◌, ◌<◌, length, arith}
use Rattle.std.specs.Float.{binary64, nan}
use lib.IntN.{pos}
use lib.ListN.{get_or}
use mir.Syntax.{w32}
use mir.Val.{of_z, to_z}
use mir.Facts.{to_z-of_z}
use Rattle.base.proofs.Each.{each_more}
use Rattle.vectors.specs.Vectors.{fix_at}
use Rattle.vectors.proofs.unchecked.set_fixed.Goals as goal

pub loop-k-preserved : goal.loop-k-preserved
unfolding fix_at
loop-k-preserved c =
    let a = c.args in
    let inside : c.loop-k.k < length a.values.now = omega arith in
    let flag = get_or a.flags.now c.loop-k.k (pos 0) in
    let same : to_z w32 (of_z w32 flag) ≡ flag = to_z-of_z {w = w32} (record { sfits = c.kept_by-arg-1.given }) in
    rw (c.kept_by.ensures, same, c.loop-k.invariant) (each_more (fix_at binary64 a.flags.now) c.loop-k.k a.values.now nan inside)
