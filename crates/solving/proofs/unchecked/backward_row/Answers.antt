-- `unchecked::backward_row` meets its promise: the row is read, taken from and put back.
-- Assumes nothing.
use lib.Ieee.{binary64}
use Rattle.solving.proofs.StepLaws.{joined_backward, written, long_less}
use Rattle.solving.proofs.unchecked.backward_row.Goals as goal

pub returns : goal.returns
returns g c =
    let a = c.args in (
      joined_backward binary64 g.S.Size.DIM a.part.now a.first a.values.now a.i a.vec.now _ _ _
          c.vector_at.ensures c.less_upper-less.ensures c.put_row.ensures,
      written g.S.Size.DIM a.i _ a.vec.now _
          (long_less binary64 g.S.Size.DIM a.part.now a.first a.values.now a.vec.now a.i _ _ c.vector_at.ensures c.less_upper-less.ensures) c.requires.1 c.put_row.ensures,
    )
