-- `unchecked::mult_row` meets its promise: the row of y is read, scaled, added to and put back. Where no value is a zero the quick sums are the right ones.
-- Assumes nothing.
use Rattle.std.proofs.Common.{refl, sym, ◌∙◌}
use Rattle.std.specs.Float.{binary64}
use Rattle.matrix.specs.Product.{add_row}
use Rattle.matrix.proofs.ProductLaws.{joined_row}
use Rattle.matrix.proofs.BareLaws.{bare_row}
use Rattle.matrix.proofs.unchecked.mult_row.Goals as goal

pub returns-then-has_no_zero : goal.returns-then-has_no_zero
returns-then-has_no_zero g c =
    let a = c.args in
    let long = g.met.S.Size.sizes.row_long in
    bare_row binary64 g.S.Size.DIM a.beta a.alpha a.row.now a.first a.values.now a.diagonal.now a.x.now a.i a.y.now _ _ _ _ _
    c.vector_at.ensures (rw long at c.scale-scaled.ensures) c.add_bare_entries-entries.ensures c.add_bare-quick.ensures
    (rw long at (sym c.has_no_zero.ensures ∙ c.if-has_no_zero.true)) c.put_row.ensures

pub returns : goal.returns
unfolding add_row
returns g c =
    let a = c.args in
    joined_row binary64 g.S.Size.DIM a.beta a.alpha a.row.now a.first a.values.now a.diagonal.now a.x.now a.i a.y.now _ _ _ _ _
    c.vector_at.ensures (rw g.met.S.Size.sizes.row_long at c.scale-scaled.ensures) refl c.add_row-all.ensures c.put_row-2.ensures
