-- `write_in` meets its promise: what the call left of the decoded words, encoded if it was done.
-- Assumes nothing.
use native.Mathlib.Omega.{arith}
use Rattle.fixing_bytes.proofs.WriteLaws.{wrote_matrix}
use Rattle.fixing_bytes.proofs.write_in.Goals as goal

pub encode_if_done-requires : goal.encode_if_done-requires
encode_if_done-requires c = omega (arith, c.requires.0.of_values, c.decode_both.auto.first, c.write_words-answer.auto.values)

pub encode_if_done-requires-2 : goal.encode_if_done-requires-2
encode_if_done-requires-2 c = omega (arith, c.requires.0.of_diagonal, c.decode_both.auto.second, c.write_words-answer.auto.diagonal)

pub shape_of-offs : goal.shape_of-offs
shape_of-offs c = c.decode_pattern.auto.offs

pub returns : goal.returns
returns c =
    let a = c.args in
    let pattern = c.decode_pattern.ensures in
    let matrix = c.decode_both.ensures in
    wrote_matrix a.op a.dim a.val_dia a.flags.now a.offsets.now a.columns.now a.values.now a.diagonal.now _ _ _ _ _ _ _ _ _ _
    pattern.0 pattern.1 matrix.0 matrix.1 c.decode_flags.ensures c.write_words-answer.ensures c.encode_if_done.ensures
    c.encode_if_done-2.ensures
