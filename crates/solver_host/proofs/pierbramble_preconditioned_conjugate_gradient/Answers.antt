-- `pierbramble_preconditioned_conjugate_gradient` meets its promise: the end of the call, told by its numbers.
-- Assumes nothing.
use lib.Ieee.{binary64}
use Rattle.solve_outcomes.proofs.FinishedLaws.{finished_solve}
use Rattle.solver_host.proofs.pierbramble_preconditioned_conjugate_gradient.Goals as goal

pub shape_of-r : goal.shape_of-r
shape_of-r c = c.preconditioned_conjugate_gradient.auto.r

pub shape_of-x : goal.shape_of-x
shape_of-x c = c.preconditioned_conjugate_gradient.auto.x

pub shape_of-pr : goal.shape_of-pr
shape_of-pr c = c.preconditioned_conjugate_gradient.auto.pr

pub shape_of-p : goal.shape_of-p
shape_of-p c = c.preconditioned_conjugate_gradient.auto.p

pub shape_of-history : goal.shape_of-history
shape_of-history c = c.preconditioned_conjugate_gradient.auto.history

pub returns : goal.returns
returns c = finished_solve binary64 _ _ _ _ _ _ _ c.preconditioned_conjugate_gradient.ensures c.solved_of.ensures
