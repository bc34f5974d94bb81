-- `pierbramble_copy_value` meets its promise: the end of the call, without a row.
-- Assumes nothing.
use Rattle.outcomes.proofs.FinishedLaws.{finished_call}
use Rattle.factor_host.proofs.pierbramble_copy_value.Goals as goal

pub returns : goal.returns
returns c = (finished_call _ _ _ _ _ _ c.copy_value.ensures c.rowless.ensures.0, c.rowless.ensures.1)
