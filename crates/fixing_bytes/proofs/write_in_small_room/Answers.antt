-- `write_in_small_room` meets its promise: parts of its arrays are room for the words of the call.
-- Assumes nothing.
use mathlib.Core.Path.{sym}
use lib.IntN.{pos}
use lib.Ieee.{binary64, of_bits}
use Rattle.pattern_bytes.proofs.RoomLaws.{part_of_room}
use Rattle.matrix_bytes.proofs.WayLaws.{fills, filled}
use Rattle.fixing_bytes.proofs.write_in_small_room.Goals as goal

pub slice_bounds-offs-end : goal.slice_bounds-offs-end
slice_bounds-offs-end c = c.requires.0.of_offsets.few

pub slice_bounds-write_in-end : goal.slice_bounds-write_in-end
slice_bounds-write_in-end c = sym (part_of_room 17 _ 0 c.requires.0.of_offsets.few)

pub slice_bounds-cols-end : goal.slice_bounds-cols-end
slice_bounds-cols-end c = c.requires.0.of_columns.few

pub slice_bounds-write_in-end-2 : goal.slice_bounds-write_in-end-2
slice_bounds-write_in-end-2 c = sym (part_of_room 64 _ 0 c.requires.0.of_columns.few)

pub slice_bounds-vals-end : goal.slice_bounds-vals-end
slice_bounds-vals-end c = c.requires.0.of_values.few

pub slice_bounds-write_in-end-3 : goal.slice_bounds-write_in-end-3
slice_bounds-write_in-end-3 c = sym (part_of_room 576 _ (of_bits binary64 0) c.requires.0.of_values.few)

pub slice_bounds-diag-end : goal.slice_bounds-diag-end
slice_bounds-diag-end c = c.requires.0.of_diagonal.few

pub slice_bounds-write_in-end-4 : goal.slice_bounds-write_in-end-4
slice_bounds-write_in-end-4 c = sym (part_of_room 144 _ (of_bits binary64 0) c.requires.0.of_diagonal.few)

pub slice_bounds-marks-end : goal.slice_bounds-marks-end
slice_bounds-marks-end c = c.requires.1.few

pub slice_bounds-write_in-end-5 : goal.slice_bounds-write_in-end-5
slice_bounds-write_in-end-5 c = sym (part_of_room 48 _ (pos 0) c.requires.1.few)

pub write_in-requires : goal.write_in-requires
write_in-requires c = (
  filled 16 64 c.args.dim _ _ _ _ _ _ _ _ c.requires.0 (part_of_room 17 _ 0 c.requires.0.of_offsets.few) (part_of_room 64 _ 0 c.requires.0.of_columns.few)
      (part_of_room 576 _ (of_bits binary64 0) c.requires.0.of_values.few) (part_of_room 144 _ (of_bits binary64 0) c.requires.0.of_diagonal.few),
  fills 4 48 _ _ c.requires.1 (part_of_room 48 _ (pos 0) c.requires.1.few),
)

pub shape_of-values : goal.shape_of-values
shape_of-values c = c.write_in.auto.values

pub shape_of-diagonal : goal.shape_of-diagonal
shape_of-diagonal c = c.write_in.auto.diagonal

pub returns : goal.returns
returns c = c.write_in.ensures
