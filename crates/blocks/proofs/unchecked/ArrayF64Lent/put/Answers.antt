-- `put` meets its promise: after i turns the first i values are in their places, and all else is as it was.
-- Assumes nothing.
use Rattle.std.proofs.Common.{◌≡◌, ◌*◌, length, arith, rules, add-one}
use Rattle.std.proofs.Math.Seq.{paste-suc}
use Rattle.std.specs.Float.{nan}
use Rattle.blocks.specs.Lent.{put_at}
use Rattle.blocks.proofs.unchecked.ArrayF64Lent.put.Goals as goal

pub loop-i-preserved : goal.loop-i-preserved
loop-i-preserved g c =
    let a = c.args in (
      search rules,
      rw (c.loop-i.invariant.1, add-one)
          (paste-suc a.values.now (g.row.L * a.k) a.self c.loop-i.i nan (omega arith) (omega arith)),
    )

pub returns-clause-put : goal.returns-clause-put
unfolding put_at
returns-clause-put g c =
    let e : c.loop-i.i ≡ length c.args.self = omega arith in
    rw e at c.loop-i.invariant.1
