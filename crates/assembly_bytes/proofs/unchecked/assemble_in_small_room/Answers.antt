-- `assemble_in_small_room` meets its promise: a part of each array is room for the words of the bytes.
-- Assumes nothing.
use mathlib.Core.Path.{sym}
use lib.Ieee.{binary64, of_bits}
use Rattle.pattern_bytes.proofs.RoomLaws.{part_of_room, room_filled}
use Rattle.assembly_bytes.proofs.unchecked.assemble_in_small_room.Goals as goal

pub slice_bounds-assemble_in-end : goal.slice_bounds-assemble_in-end
slice_bounds-assemble_in-end c = sym (part_of_room 17 _ 0 c.requires.2.of_offsets.few)

pub slice_bounds-assemble_in-end-2 : goal.slice_bounds-assemble_in-end-2
slice_bounds-assemble_in-end-2 c = sym (part_of_room 64 _ 0 c.requires.2.of_columns.few)

pub slice_bounds-assemble_in-end-3 : goal.slice_bounds-assemble_in-end-3
slice_bounds-assemble_in-end-3 c = sym (part_of_room 144 _ (of_bits binary64 0) c.requires.3.few)

pub slice_bounds-assemble_in-end-4 : goal.slice_bounds-assemble_in-end-4
slice_bounds-assemble_in-end-4 c = sym (part_of_room 576 _ (of_bits binary64 0) c.requires.2.of_values.few)

pub assemble_in-requires : goal.assemble_in-requires
assemble_in-requires c =
    let pre = c.requires in (
      pre.0,
      pre.1,
      room_filled 4 17 _ 0 pre.2.of_offsets,
      room_filled 4 64 _ 0 pre.2.of_columns,
      room_filled 8 144 _ (of_bits binary64 0) pre.3,
      room_filled 8 576 _ (of_bits binary64 0) pre.2.of_values,
    )
