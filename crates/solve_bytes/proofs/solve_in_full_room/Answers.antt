-- `solve_in_full_room` meets its promise: parts of its arrays are room for the words of the call.
-- Assumes nothing.
use mathlib.Core.Path.{sym}
use lib.Ieee.{binary64, of_bits}
use Rattle.pattern_bytes.proofs.RoomLaws.{part_of_room}
use Rattle.matrix_bytes.proofs.WayLaws.{fills}
use Rattle.factor_bytes.proofs.RoomLaws.{filled_factor}
use Rattle.pattern_bytes.proofs.RoomLaws.{end_of_room}
use Rattle.solve_bytes.proofs.solve_in_full_room.Goals as goal

pub slice_bounds-offs-end : goal.slice_bounds-offs-end
slice_bounds-offs-end c = c.requires.0.matrix.of_offsets.few

pub slice_bounds-solve_in-end : goal.slice_bounds-solve_in-end
slice_bounds-solve_in-end c = sym (part_of_room 4097 _ 0 c.requires.0.matrix.of_offsets.few)

pub slice_bounds-cols-end : goal.slice_bounds-cols-end
slice_bounds-cols-end c = c.requires.0.matrix.of_columns.few

pub slice_bounds-solve_in-end-2 : goal.slice_bounds-solve_in-end-2
slice_bounds-solve_in-end-2 c = sym (part_of_room 65535 _ 0 c.requires.0.matrix.of_columns.few)

pub slice_bounds-cuts-end : goal.slice_bounds-cuts-end
slice_bounds-cuts-end c = c.requires.0.of_splits.few

pub slice_bounds-solve_in-end-3 : goal.slice_bounds-solve_in-end-3
slice_bounds-solve_in-end-3 c = sym (part_of_room 4096 _ 0 c.requires.0.of_splits.few)

pub slice_bounds-diag-end : goal.slice_bounds-diag-end
slice_bounds-diag-end c = c.requires.0.matrix.of_diagonal.few

pub slice_bounds-solve_in-end-4 : goal.slice_bounds-solve_in-end-4
slice_bounds-solve_in-end-4 c = sym (part_of_room 36864 _ (of_bits binary64 0) c.requires.0.matrix.of_diagonal.few)

pub slice_bounds-vals-end : goal.slice_bounds-vals-end
slice_bounds-vals-end c = end_of_room 589815 _ (of_bits binary64 0) c.requires.0.matrix.of_values.few

pub slice_bounds-solve_in-end-5 : goal.slice_bounds-solve_in-end-5
slice_bounds-solve_in-end-5 c = sym (part_of_room 589815 _ (of_bits binary64 0) c.requires.0.matrix.of_values.few)

pub slice_bounds-x-end : goal.slice_bounds-x-end
slice_bounds-x-end c = c.requires.1.few

pub slice_bounds-solve_in-end-6 : goal.slice_bounds-solve_in-end-6
slice_bounds-solve_in-end-6 c = sym (part_of_room 12288 _ (of_bits binary64 0) c.requires.1.few)

pub solve_in-requires : goal.solve_in-requires
solve_in-requires c = (
  filled_factor 4096 65535 c.args.dim _ _ _ _ _ _ _ _ _ _ c.requires.0 (part_of_room 4097 _ 0 c.requires.0.matrix.of_offsets.few) (part_of_room 65535 _ 0 c.requires.0.matrix.of_columns.few) (part_of_room 4096 _ 0 c.requires.0.of_splits.few)
      (part_of_room 36864 _ (of_bits binary64 0) c.requires.0.matrix.of_diagonal.few) (part_of_room 589815 _ (of_bits binary64 0) c.requires.0.matrix.of_values.few),
  fills 8 12288 _ _ c.requires.1 (part_of_room 12288 _ (of_bits binary64 0) c.requires.1.few),
)

pub shape_of-vec : goal.shape_of-vec
shape_of-vec c = c.solve_in.auto.vec

pub returns : goal.returns
returns c = c.solve_in.ensures
