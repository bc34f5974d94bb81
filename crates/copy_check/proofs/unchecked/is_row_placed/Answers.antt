-- `unchecked::is_row_placed` meets its promise: what the row got is taken by the other.
-- Assumes nothing.
use Rattle.copy_check.proofs.StampLaws.{take_none, placed_of}
use Rattle.copy_check.proofs.unchecked.is_row_placed.Goals as goal

pub returns : goal.returns
returns c =
    let a = c.args in
    let stamped = c.stamp_row in
    λ e.
    let all = c.are_all_taken.ensures.1 e a.row.now (take_none a.stamp a.row.now a.from.now _ stamped.ensures.0 stamped.ensures.1) in
    (all.below, placed_of a.stamp a.row.now a.from.now _ all)
