-- `unchecked::add_bare_four` meets its promise: four entries after each other.
-- Assumes nothing.
use Rattle.std.specs.Float.{binary64}
use Rattle.matrix.specs.Product.{add_entry}
use Rattle.matrix.proofs.BareLaws.{four_alike}
use Rattle.matrix.proofs.unchecked.add_bare_four.Goals as goal

pub returns : goal.returns
returns g c =
    let a = c.args in
    let n = g.S.Size.DIM in
    four_alike n (add_entry binary64 n a.alpha a.row.now a.first a.values.now a.x.now) a.k _ _ _ _ _ c.add_bare_entry-one.ensures c.add_bare_entry-two.ensures
    c.add_bare_entry-three.ensures c.add_bare_entry.ensures
