-- `assemble_lent` meets its promise: a part of each array is room for the words of the element.
-- Assumes nothing.
use mathlib.Core.Path.{sym}
use lib.Ieee.{binary64, of_bits}
use Rattle.pattern_bytes.proofs.RoomLaws.{part_of_room, room_filled}
use Rattle.assembly_bytes.proofs.unchecked.assemble_lent.Goals as goal

pub slice_bounds-assemble_element-end : goal.slice_bounds-assemble_element-end
slice_bounds-assemble_element-end c = sym (part_of_room 8 _ 0 c.requires.4.of_rows.few)

pub slice_bounds-assemble_element-end-2 : goal.slice_bounds-assemble_element-end-2
slice_bounds-assemble_element-end-2 c = sym (part_of_room 8 _ 0 c.requires.4.of_cols.few)

pub slice_bounds-assemble_element-end-3 : goal.slice_bounds-assemble_element-end-3
slice_bounds-assemble_element-end-3 c = sym (part_of_room 576 _ (of_bits binary64 0) c.requires.4.of_element.few)

pub assemble_element-requires : goal.assemble_element-requires
assemble_element-requires c =
    let pre = c.requires in (
      pre.0,
      pre.1,
      pre.2,
      pre.3,
      room_filled 4 8 _ 0 pre.4.of_rows,
      room_filled 4 8 _ 0 pre.4.of_cols,
      room_filled 8 576 _ (of_bits binary64 0) pre.4.of_element,
    )
