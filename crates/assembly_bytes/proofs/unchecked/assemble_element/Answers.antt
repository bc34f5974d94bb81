-- `assemble_element` meets its promise: the words of the element are those of its bytes.
-- Assumes nothing.
use Rattle.assembly_bytes.proofs.WayLaws.{called_words, element_read}
use Rattle.assembly_bytes.proofs.unchecked.assemble_element.Goals as goal

pub assemble_matrix-requires : goal.assemble_matrix-requires
assemble_matrix-requires c =
    let pre = c.requires in
    let a = c.args in
    (pre.0, called_words a.call a.dim a.rows.now a.cols.now _ _ pre.1 c.decode_element.ensures.0 c.decode_element.ensures.1, pre.2, pre.3)

pub returns : goal.returns
returns c =
    let a = c.args in
    element_read a.call a.dim a.rows.now a.cols.now a.element.now a.offsets.now a.columns.now a.diagonal.now a.values.now _ _ _ _ _ _
    c.decode_element.ensures.0 c.decode_element.ensures.1 c.decode_element.ensures.2 c.assemble_matrix.ensures
