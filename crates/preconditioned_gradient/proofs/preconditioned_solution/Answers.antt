-- `preconditioned_solution` meets its promise.
-- Assumes nothing.
use Rattle.preconditioned_gradient.proofs.EndLaws.{solution_made}
use Rattle.preconditioned_gradient.proofs.preconditioned_solution.Goals as goal

pub returns : goal.returns
returns c =
    let a = c.args in
    solution_made a.limit a.history.now a.count c.requires.0 _ c.last_number-last.ensures _ c.of_preconditioned.ensures
