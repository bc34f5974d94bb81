-- `unchecked::less_beside` meets its promise: the block and the row are read and multiplied, and the product is taken away.
-- Assumes nothing.
use lib.Ieee.{binary64}
use Rattle.solving.proofs.StepLaws.{joined_product}
use Rattle.solving.proofs.unchecked.less_beside.Goals as goal

pub returns : goal.returns
returns g c =
    let a = c.args in
    joined_product binary64 g.S.Size.DIM a.values.now a.e a.x.now a.j _ _ _ _ _ c.block_at.ensures
    c.row_beside.ensures c.apply.ensures (rw g.met.S.Size.sizes.row_long at c.subtract.ensures)
