-- `blkcsr_matrix` meets its promise: a small pattern has few values, so that the small room takes them.
-- Assumes nothing.
use mathlib.Core.Path.{sym, ◌∙◌}
use lib.ListN.{length}
use Rattle.entry_bytes.proofs.SizeLaws.{small_entries}
use Rattle.entry_bytes.proofs.unchecked.blkcsr_matrix.Goals as goal

pub blkcsr_in_small_room-requires : goal.blkcsr_in_small_room-requires
blkcsr_in_small_room-requires c =
    let pre = c.requires in
    let a = c.args in
    (pre.0, small_entries (length a.offsets.now) (length a.columns.now) (sym c.is_small.ensures ∙ c.if-is_small.true) _ pre.1)
