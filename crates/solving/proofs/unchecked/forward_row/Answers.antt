-- `unchecked::forward_row` meets its promise: the row is read, taken from, multiplied and put back.
-- Assumes nothing.
use lib.Ieee.{binary64}
use Rattle.solving.proofs.StepLaws.{joined_forward, written, long_applied}
use Rattle.solving.proofs.unchecked.forward_row.Goals as goal

pub returns : goal.returns
returns g c =
    let a = c.args in (
      joined_forward binary64 g.S.Size.DIM a.part.now a.first a.diagonal.now a.values.now a.i a.vec.now _ _ _ _ _
          c.vector_at.ensures c.less_lower-less.ensures c.block_at.ensures c.apply-all.ensures c.put_row.ensures,
      written g.S.Size.DIM a.i _ a.vec.now _ (long_applied binary64 g.S.Size.DIM (g.S.Block.Values.list c.block_at.result) (g.S.Row.Values.list c.less_lower-less.result) _ c.apply-all.ensures) c.requires.0.here c.put_row.ensures,
    )
