-- `sort_in_small_room` meets its promise: a part of its room has the words of the row.
-- Assumes nothing.
use mathlib.Core.Path.{sym}
use Rattle.pattern_bytes.proofs.RoomLaws.{part_of_room, room_filled}
use Rattle.pattern_bytes.proofs.sort_in_small_room.Goals as goal

pub slice_bounds-sort_in-end : goal.slice_bounds-sort_in-end
slice_bounds-sort_in-end c = sym (part_of_room 64 _ 0 c.requires.few)

pub sort_in-requires : goal.sort_in-requires
sort_in-requires c = room_filled 4 64 _ 0 c.requires
