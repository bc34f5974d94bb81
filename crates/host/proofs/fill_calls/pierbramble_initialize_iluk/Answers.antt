-- `fill_calls::pierbramble_initialize_iluk` meets its promise: the end of the call, without a row.
-- Assumes nothing.
use Rattle.fill_way.proofs.WayLaws.{renumbered, work_renumbered}
use Rattle.host.proofs.fill_calls.pierbramble_initialize_iluk.Goals as goal

pub returns : goal.returns
returns c =
    let end = c.initialize_iluk.ensures in
    let is = c.rowless.ensures in
    (renumbered _ _ _ _ _ _ _ _ _ _ _ _ is.0 end.wrote, work_renumbered _ _ _ _ _ _ is.0 end.cleared, is.1)
