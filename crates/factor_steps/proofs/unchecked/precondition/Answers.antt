-- `unchecked::precondition` meets its promise: a copy, and a solve with the factor.
-- Assumes nothing.
use Rattle.solvers.specs.Solvers.{factor_as}
use Rattle.factor_steps.proofs.TurnLaws.{preconditions}
use Rattle.factor_steps.proofs.unchecked.precondition.Goals as goal

pub returns : goal.returns
returns g c =
    let a = c.args in
    preconditions g.S.Size.DIM (factor_as a.offsets.now a.columns.now a.splits.now a.diagonal.now a.values.now) a.r.now a.q.now _ _ _
    c.copy.ensures c.solve_preconditioning_vec.ensures c.dot.ensures
