-- `fill_calls::pierbramble_initialize_ilu0` meets its promise: the end of the call, without a row.
-- Assumes nothing.
use Rattle.fill_way.proofs.WayLaws.{renumbered}
use Rattle.host.proofs.fill_calls.pierbramble_initialize_ilu0.Goals as goal

pub returns : goal.returns
returns c = (renumbered _ _ _ _ _ _ _ _ _ _ _ _ c.rowless.ensures.0 c.initialize_ilu0.ensures, c.rowless.ensures.1)
