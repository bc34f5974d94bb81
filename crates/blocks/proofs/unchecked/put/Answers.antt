-- `unchecked::put` meets its promise: after k turns the first k new values are in their places, and all else is as it was.
-- Assumes nothing.
use Rattle.std.proofs.Common.{◌≡◌, length, arith, rules, add-one}
use Rattle.std.proofs.Math.Seq.{paste-suc}
use Rattle.std.specs.Float.{nan}
use Rattle.blocks.specs.Lent.{put_at}
use Rattle.blocks.proofs.unchecked.put.Goals as goal

pub loop-k-preserved : goal.loop-k-preserved
loop-k-preserved c =
    let a = c.args in (
      search rules,
      rw (c.loop-k.invariant.1, add-one)
          (paste-suc a.values.now a.at a.new.now c.loop-k.k nan (omega arith) (omega arith)),
    )

pub returns : goal.returns
unfolding put_at
returns c =
    let e : c.loop-k.k ≡ length c.args.new.now = omega arith in
    rw e at c.loop-k.invariant.1
