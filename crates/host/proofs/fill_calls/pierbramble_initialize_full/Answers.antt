-- `fill_calls::pierbramble_initialize_full` meets its promise: the end of the call, without a row.
-- Assumes nothing.
use Rattle.fill_way.proofs.WayLaws.{renumbered}
use Rattle.host.proofs.fill_calls.pierbramble_initialize_full.Goals as goal

pub returns : goal.returns
returns c = (renumbered _ _ _ _ _ _ _ _ _ _ _ _ c.rowless.ensures.0 c.initialize_full.ensures, c.rowless.ensures.1)
