-- `mult_vec_in` meets its promise: the product of what was decoded, encoded if the call was done.
-- Assumes nothing.
use native.Mathlib.Omega.{arith}
use Rattle.matrix_bytes.proofs.WayLaws.{multiplied}
use Rattle.matrix_bytes.proofs.mult_vec_in.Goals as goal

pub encode_if_done-requires : goal.encode_if_done-requires
encode_if_done-requires c =
    omega (arith, c.requires.1, c.decode_both-2.auto.first, c.mult_vec-answer.auto.y)

pub returns : goal.returns
returns c =
    let a = c.args in
    let pattern = c.decode_pattern.ensures in
    let matrix = c.decode_both.ensures in
    let vectors = c.decode_both-2.ensures in
    multiplied a.dim a.offsets.now a.columns.now a.values.now a.diagonal.now a.x.now a.y.now _ _ _ _ _ _ _ a.beta a.alpha _ _
    c.requires.0.range pattern.0 pattern.1 matrix.0 matrix.1 vectors.0 vectors.1 c.mult_vec-answer.ensures c.encode_if_done.ensures
