-- `fill_calls::pierbramble_timed_initialize_iluk` meets its promise: the call of its crate, by its number.
-- Assumes nothing.
use Rattle.fill_way.proofs.CallLaws.{told_iluk}
use Rattle.host.proofs.fill_calls.pierbramble_timed_initialize_iluk.Goals as goal

pub returns : goal.returns
returns c =
    let both = told_iluk _ _ _ _ _ _ _ _ _ _ _ _ _ _ _ c.number.ensures c.initialize_iluk.ensures in
    record { wrote = both.0; cleared = both.1 }
