-- `timed::pierbramble_timed_conjugate_gradient` meets its promise: the end of the call, told by its numbers.
-- Assumes nothing.
use lib.Ieee.{binary64}
use Rattle.solve_outcomes.proofs.FinishedLaws.{finished_solve}
use Rattle.solver_host.proofs.timed.pierbramble_timed_conjugate_gradient.Goals as goal

pub shape_of-r : goal.shape_of-r
shape_of-r c = c.conjugate_gradient.auto.r

pub shape_of-u : goal.shape_of-u
shape_of-u c = c.conjugate_gradient.auto.u

pub shape_of-ap : goal.shape_of-ap
shape_of-ap c = c.conjugate_gradient.auto.ap

pub shape_of-p : goal.shape_of-p
shape_of-p c = c.conjugate_gradient.auto.p

pub shape_of-history : goal.shape_of-history
shape_of-history c = c.conjugate_gradient.auto.history

pub returns : goal.returns
returns c = finished_solve binary64 _ _ _ _ _ _ _ c.conjugate_gradient.ensures c.solved_of.ensures
