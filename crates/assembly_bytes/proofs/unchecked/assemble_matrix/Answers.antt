-- `assemble_matrix` meets its promise: a small pattern has few values, so that the small room takes them.
-- Assumes nothing.
use mathlib.Core.Path.{sym, ◌∙◌}
use lib.ListN.{length}
use Rattle.entry_bytes.proofs.SizeLaws.{small_entries}
use Rattle.assembly_bytes.proofs.WayLaws.{small_diagonal}
use Rattle.assembly_bytes.proofs.unchecked.assemble_matrix.Goals as goal

pub assemble_in_small_room-requires : goal.assemble_in_small_room-requires
assemble_in_small_room-requires c =
    let pre = c.requires in
    let a = c.args in
    let o = length a.offsets.now in
    let e = length a.columns.now in
    let small = sym c.is_small.ensures ∙ c.if-is_small.true in
    (pre.0, pre.1, small_entries o e small _ pre.2, small_diagonal o e small _ pre.3)
