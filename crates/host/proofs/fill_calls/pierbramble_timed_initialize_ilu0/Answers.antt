-- `fill_calls::pierbramble_timed_initialize_ilu0` meets its promise: the call of its crate, by its number.
-- Assumes nothing.
use Rattle.fill_way.proofs.CallLaws.{told_ilu0}
use Rattle.host.proofs.fill_calls.pierbramble_timed_initialize_ilu0.Goals as goal

pub returns : goal.returns
returns c = told_ilu0 _ _ _ _ _ _ _ _ _ _ c.number.ensures c.initialize_ilu0.ensures
