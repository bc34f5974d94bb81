-- `unchecked::add_bare` meets its promise: the block and the row are read, multiplied, scaled and added.
-- Assumes nothing.
use Rattle.std.specs.Float.{binary64}
use Rattle.matrix.proofs.BareLaws.{bare_product}
use Rattle.matrix.proofs.unchecked.add_bare.Goals as goal

pub returns : goal.returns
returns g c =
    let a = c.args in
    let laws = g.met.S.Size.sizes in
    bare_product binary64 g.S.Size.DIM a.alpha a.values.now a.e a.x.now a.j _ _ _ _ _ _ laws.least c.block_at.ensures c.vector_at.ensures c.apply_bare.ensures
    (rw laws.row_long at c.scale.ensures) (rw laws.row_long at c.add.ensures)
