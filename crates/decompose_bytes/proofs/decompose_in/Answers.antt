-- `decompose_in` meets its promise: what the run left of the decoded words, encoded after 0 and 9.
-- Assumes nothing.
use native.Mathlib.Omega.{arith}
use Rattle.decompose_bytes.proofs.EndLaws.{decomposed}
use Rattle.decompose_bytes.proofs.decompose_in.Goals as goal

pub encode_if_run-requires : goal.encode_if_run-requires
encode_if_run-requires c =
    omega (arith, c.requires.matrix.of_diagonal, c.decode_factor.auto.diag, c.decompose-answer.auto.diagonal)

pub encode_if_run-requires-2 : goal.encode_if_run-requires-2
encode_if_run-requires-2 c =
    omega (arith, c.requires.matrix.of_values, c.decode_factor.auto.vals, c.decompose-answer.auto.values)

pub returns : goal.returns
returns c =
    let a = c.args in
    decomposed a.dim a.offsets.now a.columns.now a.splits.now a.diagonal.now a.values.now _ _ _ _ _ _ _ c.decompose-answer.result _ _
    c.requires.matrix.range c.decode_factor.ensures c.decompose-answer.ensures c.encode_if_run.ensures c.encode_if_run-2.ensures
