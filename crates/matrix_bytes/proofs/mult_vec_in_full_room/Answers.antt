-- `mult_vec_in_full_room` meets its promise: parts of its arrays are room for the words of the call.
-- Assumes nothing.
use mathlib.Core.Path.{sym}
use lib.Ieee.{binary64, of_bits}
use Rattle.pattern_bytes.proofs.RoomLaws.{part_of_room, end_of_room}
use Rattle.matrix_bytes.proofs.WayLaws.{fills, filled}
use Rattle.matrix_bytes.proofs.mult_vec_in_full_room.Goals as goal

pub slice_bounds-offs-end : goal.slice_bounds-offs-end
slice_bounds-offs-end c = c.requires.0.of_offsets.few

pub slice_bounds-mult_vec_in-end : goal.slice_bounds-mult_vec_in-end
slice_bounds-mult_vec_in-end c = sym (part_of_room 4097 _ 0 c.requires.0.of_offsets.few)

pub slice_bounds-cols-end : goal.slice_bounds-cols-end
slice_bounds-cols-end c = c.requires.0.of_columns.few

pub slice_bounds-mult_vec_in-end-2 : goal.slice_bounds-mult_vec_in-end-2
slice_bounds-mult_vec_in-end-2 c = sym (part_of_room 65535 _ 0 c.requires.0.of_columns.few)

pub slice_bounds-vals-end : goal.slice_bounds-vals-end
slice_bounds-vals-end c = end_of_room 589815 _ (of_bits binary64 0) c.requires.0.of_values.few

pub slice_bounds-mult_vec_in-end-3 : goal.slice_bounds-mult_vec_in-end-3
slice_bounds-mult_vec_in-end-3 c = sym (part_of_room 589815 _ (of_bits binary64 0) c.requires.0.of_values.few)

pub slice_bounds-diag-end : goal.slice_bounds-diag-end
slice_bounds-diag-end c = c.requires.0.of_diagonal.few

pub slice_bounds-mult_vec_in-end-4 : goal.slice_bounds-mult_vec_in-end-4
slice_bounds-mult_vec_in-end-4 c = sym (part_of_room 36864 _ (of_bits binary64 0) c.requires.0.of_diagonal.few)

pub slice_bounds-p-end : goal.slice_bounds-p-end
slice_bounds-p-end c = c.requires.1.few

pub slice_bounds-mult_vec_in-end-5 : goal.slice_bounds-mult_vec_in-end-5
slice_bounds-mult_vec_in-end-5 c = sym (part_of_room 12288 _ (of_bits binary64 0) c.requires.1.few)

pub slice_bounds-q-end : goal.slice_bounds-q-end
slice_bounds-q-end c = c.requires.2.few

pub slice_bounds-mult_vec_in-end-6 : goal.slice_bounds-mult_vec_in-end-6
slice_bounds-mult_vec_in-end-6 c = sym (part_of_room 12288 _ (of_bits binary64 0) c.requires.2.few)

pub mult_vec_in-requires : goal.mult_vec_in-requires
mult_vec_in-requires c = (
  filled 4096 65535 c.args.dim _ _ _ _ _ _ _ _ c.requires.0 (part_of_room 4097 _ 0 c.requires.0.of_offsets.few) (part_of_room 65535 _ 0 c.requires.0.of_columns.few)
      (part_of_room 589815 _ (of_bits binary64 0) c.requires.0.of_values.few) (part_of_room 36864 _ (of_bits binary64 0) c.requires.0.of_diagonal.few),
  fills 8 12288 _ _ c.requires.1 (part_of_room 12288 _ (of_bits binary64 0) c.requires.1.few),
  fills 8 12288 _ _ c.requires.2 (part_of_room 12288 _ (of_bits binary64 0) c.requires.2.few),
)

pub shape_of-y : goal.shape_of-y
shape_of-y c = c.mult_vec_in.auto.y

pub returns : goal.returns
returns c = c.mult_vec_in.ensures
