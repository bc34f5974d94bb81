-- `unchecked::solve_preconditioning_vec` meets its promise: forward, and then backward from what that has left.
-- Assumes nothing.
use mathlib.Core.Path.{ap, ◌∙◌}
use lib.Ieee.{binary64}
use Rattle.factors.specs.Factor.{FactorPattern, FactorValues}
use Rattle.factors.specs.Solve.{solve}
use Rattle.solving.specs.Steps.{forward_rows, backward_rows}
use Rattle.solving.proofs.unchecked.solve_preconditioning_vec.Goals as goal

pub returns : goal.returns
unfolding solve forward_rows backward_rows
returns g c =
    let a = c.args in
    let t : FactorPattern = record { offsets = a.offsets.now; columns = a.columns.now; splits = a.splits.now } in
    let s : FactorValues = record { diagonal = a.diagonal.now; values = a.values.now } in
    c.backward.ensures ∙ ap (backward_rows binary64 g.S.Size.DIM t s) c.forward.ensures
