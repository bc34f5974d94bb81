-- `unchecked::copy_in` meets its promise: the copy of what was decoded, encoded if the call was done.
-- Assumes nothing.
use native.Mathlib.Omega.{arith}
use Rattle.copy_room.proofs.WayLaws.{copied}
use Rattle.copy_room.proofs.unchecked.copy_in.Goals as goal

pub encode_if_done-requires : goal.encode_if_done-requires
encode_if_done-requires c =
    omega (arith, c.requires.1.matrix.of_diagonal, c.decode_factor.auto.diag, c.copy_value-answer.auto.diagonal)

pub encode_if_done-requires-2 : goal.encode_if_done-requires-2
encode_if_done-requires-2 c =
    omega (arith, c.requires.1.matrix.of_values, c.decode_factor.auto.vals, c.copy_value-answer.auto.values)

pub shape_of-heads : goal.shape_of-heads
shape_of-heads c = c.decode_pattern.auto.offs

pub shape_of-cells : goal.shape_of-cells
shape_of-cells c = c.decode_pattern.auto.cols

pub shape_of-pivots : goal.shape_of-pivots
shape_of-pivots c = c.decode_both.auto.first

pub shape_of-blocks : goal.shape_of-blocks
shape_of-blocks c = c.decode_both.auto.second

pub returns : goal.returns
returns c =
    let a = c.args in
    let pattern = c.decode_pattern.ensures in
    let matrix = c.decode_both.ensures in
    copied a.dim a.starts.now a.entries.now a.a_diagonal.now a.a_values.now a.offsets.now a.columns.now a.splits.now a.diagonal.now a.values.now
    _ _ _ _ _ _ _ _ _ _ _ _ _ _ c.requires.0.range pattern.0 pattern.1 matrix.0 matrix.1 c.decode_factor.ensures c.copy_value-answer.ensures
    c.encode_if_done.ensures c.encode_if_done-2.ensures
