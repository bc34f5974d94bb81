-- `matrix_calls::pierbramble_set_fixed_bc` meets its promise: the end of the call, without a row.
-- Assumes nothing.
use Rattle.outcomes.proofs.FinishedLaws.{finished_call}
use Rattle.host.proofs.matrix_calls.pierbramble_set_fixed_bc.Goals as goal

pub returns : goal.returns
returns c = (finished_call _ _ _ _ _ _ c.set_fixed_bc.ensures c.rowless.ensures.0, c.rowless.ensures.1)
