-- `fill_calls::pierbramble_timed_initialize_full` meets its promise: the call of its crate, by its number.
-- Assumes nothing.
use Rattle.fill_way.proofs.CallLaws.{told_full}
use Rattle.host.proofs.fill_calls.pierbramble_timed_initialize_full.Goals as goal

pub returns : goal.returns
returns c = told_full _ _ _ _ _ _ _ _ _ c.number.ensures c.initialize_full.ensures
