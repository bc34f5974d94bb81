-- `check_in_full_room` meets its promise: parts of its rooms have the words of the bytes.
-- Assumes nothing.
use mathlib.Core.Path.{sym}
use Rattle.pattern_bytes.proofs.RoomLaws.{part_of_room, room_filled}
use Rattle.pattern_bytes.proofs.check_in_full_room.Goals as goal

pub slice_bounds-check_in-end : goal.slice_bounds-check_in-end
slice_bounds-check_in-end c = sym (part_of_room 4097 _ 0 c.requires.0.few)

pub slice_bounds-check_in-end-2 : goal.slice_bounds-check_in-end-2
slice_bounds-check_in-end-2 c = sym (part_of_room 65535 _ 0 c.requires.1.few)

pub slice_bounds-check_in-end-3 : goal.slice_bounds-check_in-end-3
slice_bounds-check_in-end-3 c = sym (part_of_room 4096 _ 0 c.requires.2.few)

pub check_in-requires : goal.check_in-requires
check_in-requires c =
    let fits = c.requires in
    (room_filled 4 4097 _ 0 fits.0, room_filled 4 65535 _ 0 fits.1, room_filled 4 4096 _ 0 fits.2)
