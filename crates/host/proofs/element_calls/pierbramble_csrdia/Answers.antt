-- `element_calls::pierbramble_csrdia` meets its promise: the end of the call, without a row.
-- Assumes nothing.
use Rattle.outcomes.proofs.FinishedLaws.{finished_call}
use Rattle.host.proofs.element_calls.pierbramble_csrdia.Goals as goal

pub returns : goal.returns
returns c = (finished_call _ _ _ _ _ _ c.csrdia.ensures c.rowless.ensures.0, c.rowless.ensures.1)
