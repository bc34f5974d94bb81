-- `blkcsr_in_full_room` meets its promise: a part of each array is room for the words of the bytes.
-- Assumes nothing.
use mathlib.Core.Path.{sym}
use lib.Ieee.{binary64, of_bits}
use Rattle.pattern_bytes.proofs.RoomLaws.{part_of_room, room_filled}
use Rattle.pattern_bytes.proofs.RoomLaws.{end_of_room}
use Rattle.entry_bytes.proofs.unchecked.blkcsr_in_full_room.Goals as goal

pub slice_bounds-blkcsr_in-end : goal.slice_bounds-blkcsr_in-end
slice_bounds-blkcsr_in-end c = sym (part_of_room 4097 _ 0 c.requires.1.of_offsets.few)

pub slice_bounds-blkcsr_in-end-2 : goal.slice_bounds-blkcsr_in-end-2
slice_bounds-blkcsr_in-end-2 c = sym (part_of_room 65535 _ 0 c.requires.1.of_columns.few)

pub slice_bounds-vs-end : goal.slice_bounds-vs-end
slice_bounds-vs-end c = end_of_room 589815 _ (of_bits binary64 0) c.requires.1.of_values.few

pub slice_bounds-blkcsr_in-end-3 : goal.slice_bounds-blkcsr_in-end-3
slice_bounds-blkcsr_in-end-3 c = sym (part_of_room 589815 _ (of_bits binary64 0) c.requires.1.of_values.few)

pub blkcsr_in-requires : goal.blkcsr_in-requires
blkcsr_in-requires c =
    let pre = c.requires in (
      pre.0,
      room_filled 4 4097 _ 0 pre.1.of_offsets,
      room_filled 4 65535 _ 0 pre.1.of_columns,
      room_filled 8 589815 _ (of_bits binary64 0) pre.1.of_values,
    )

pub shape_of-values : goal.shape_of-values
shape_of-values c = c.blkcsr_in.auto.values
