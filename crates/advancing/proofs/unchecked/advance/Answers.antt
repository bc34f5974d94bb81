-- `unchecked::advance` meets its promise: its calls, one after the other, make the step.
-- Assumes nothing.
use mathlib.Core.Path.{◌∙◌}
use native.Mathlib.Omega.{arith}
use Rattle.solvers.specs.Method.{matrix_of, state_of}
use Rattle.advancing.proofs.StepLaws.{advanced}
use Rattle.advancing.proofs.unchecked.advance.Goals as goal

pub dot-requires-2 : goal.dot-requires-2
dot-requires-2 g c =
    let e = c.add_scaled_vector-2.auto.u ∙ c.requires.of_r in
    (omega (arith, e), omega (arith, e))

pub returns : goal.returns
returns g c =
    let a = c.args in
    advanced g.S.Size.DIM (matrix_of a.offsets.now a.columns.now a.values.now a.diagonal.now) (state_of a.r.now a.x.now a.q.now a.p.now a.rho) _ _ _ _ _
    c.mult_vec.ensures c.dot.ensures c.add_scaled_vector.ensures c.add_scaled_vector-2.ensures c.dot-2.ensures
