-- `unchecked::copy` meets its promise: after k turns the first k words are copied.
-- Assumes nothing.
use Rattle.std.proofs.Common.{◌<◌, ◌∙◌, length, arith}
use Rattle.fill.proofs.Lists.{over_none}
use Rattle.ilu0.proofs.RowLaws.{copy_more, copy_all}
use Rattle.ilu0.proofs.unchecked.copy.Goals as goal

pub loop-k-init : goal.loop-k-init
loop-k-init c = over_none _

pub loop-k-preserved : goal.loop-k-preserved
loop-k-preserved c =
    let a = c.args in
    let inside : c.loop-k.k < length a.from.now = omega arith in
    rw c.loop-k.invariant (copy_more c.loop-k.k a.from.now a.to.now inside c.requires)

pub returns : goal.returns
returns c =
    c.loop-k.invariant ∙ copy_all c.loop-k.k c.args.from.now c.args.to.now (omega arith) c.requires
