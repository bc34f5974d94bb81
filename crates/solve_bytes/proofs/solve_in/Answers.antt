-- `solve_in` meets its promise: the solve of what was decoded, encoded if the call was done.
-- Assumes nothing.
use native.Mathlib.Omega.{arith}
use Rattle.solve_bytes.proofs.WayLaws.{solved}
use Rattle.solve_bytes.proofs.solve_in.Goals as goal

pub encode_if_done-requires : goal.encode_if_done-requires
encode_if_done-requires c =
    omega (arith, c.requires.1, c.decode.auto.values, c.solve_preconditioning_vec-answer.auto.vec)

pub returns : goal.returns
returns c =
    let a = c.args in
    solved a.dim a.offsets.now a.columns.now a.splits.now a.diagonal.now a.values.now a.vec.now _ _ _ _ _ _ _ _ _
    c.requires.0.matrix.range c.decode_factor.ensures c.decode.ensures c.solve_preconditioning_vec-answer.ensures c.encode_if_done.ensures
