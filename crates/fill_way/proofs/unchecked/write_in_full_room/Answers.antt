-- `unchecked::write_in_full_room` meets its promise: a part of each array is room for the words of the bytes.
-- Assumes nothing.
use mathlib.Core.Path.{refl, sym}
use Rattle.pattern_bytes.proofs.RoomLaws.{part_of_room, room_filled}
use Rattle.fill_way.proofs.unchecked.write_in_full_room.Goals as goal

pub slice_bounds-write_in-end : goal.slice_bounds-write_in-end
slice_bounds-write_in-end c = sym (part_of_room 4097 _ 0 c.requires.of_starts.few)

pub slice_bounds-write_in-end-2 : goal.slice_bounds-write_in-end-2
slice_bounds-write_in-end-2 c = sym (part_of_room 65535 _ 0 c.requires.of_entries.few)

pub slice_bounds-write_in-end-3 : goal.slice_bounds-write_in-end-3
slice_bounds-write_in-end-3 c = sym (part_of_room 4097 _ 0 c.requires.of_offsets.few)

pub slice_bounds-write_in-end-4 : goal.slice_bounds-write_in-end-4
slice_bounds-write_in-end-4 c = sym (part_of_room 65535 _ 0 c.requires.of_columns.few)

pub slice_bounds-write_in-end-5 : goal.slice_bounds-write_in-end-5
slice_bounds-write_in-end-5 c = sym (part_of_room 4096 _ 0 c.requires.of_splits.few)

pub slice_bounds-write_in-end-6 : goal.slice_bounds-write_in-end-6
slice_bounds-write_in-end-6 c = sym (part_of_room 65535 _ 0 c.requires.of_columns.few)

pub slice_bounds-write_in-end-7 : goal.slice_bounds-write_in-end-7
slice_bounds-write_in-end-7 c = sym (part_of_room 4096 _ 0 c.requires.of_splits.few)

pub write_in-requires : goal.write_in-requires
write_in-requires c =
    let fits = c.requires in record {
      levels_len = (refl, refl);
      starts_len = (
        room_filled 4 4097 _ 0 fits.of_starts,
        room_filled 4 65535 _ 0 fits.of_entries,
        room_filled 4 4097 _ 0 fits.of_offsets,
        room_filled 4 65535 _ 0 fits.of_columns,
        room_filled 4 4096 _ 0 fits.of_splits,
      );
    }
