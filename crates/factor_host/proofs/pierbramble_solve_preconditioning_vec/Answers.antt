-- `pierbramble_solve_preconditioning_vec` meets its promise: the end of the call, without a row.
-- Assumes nothing.
use Rattle.outcomes.proofs.FinishedLaws.{finished_call}
use Rattle.factor_host.proofs.pierbramble_solve_preconditioning_vec.Goals as goal

pub returns : goal.returns
returns c = (finished_call _ _ _ _ _ _ c.solve_preconditioning_vec.ensures c.rowless.ensures.0, c.rowless.ensures.1)
