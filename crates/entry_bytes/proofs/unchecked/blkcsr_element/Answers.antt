-- `blkcsr_element` meets its promise: the words of the element are those of its bytes.
-- Assumes nothing.
use Rattle.entry_bytes.proofs.WayLaws.{nodes_read}
use Rattle.entry_bytes.proofs.unchecked.blkcsr_element.Goals as goal

pub returns : goal.returns
returns c =
    let a = c.args in
    nodes_read a.dim a.rows.now a.cols.now a.element.now a.offsets.now a.columns.now a.values.now _ _ _ _ _
    c.decode_element.ensures.0 c.decode_element.ensures.1 c.decode_element.ensures.2 c.blkcsr_matrix.ensures
