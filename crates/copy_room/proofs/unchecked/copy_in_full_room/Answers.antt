-- `unchecked::copy_in_full_room` meets its promise: parts of its arrays are room for the words of the call.
-- Assumes nothing.
use mathlib.Core.Path.{sym}
use lib.Ieee.{binary64, of_bits}
use Rattle.pattern_bytes.proofs.RoomLaws.{part_of_room}
use Rattle.matrix_bytes.proofs.WayLaws.{filled}
use Rattle.factor_bytes.proofs.RoomLaws.{filled_factor}
use Rattle.pattern_bytes.proofs.RoomLaws.{end_of_room}
use Rattle.pattern_bytes.proofs.RoomLaws.{end_of_room}
use Rattle.copy_room.proofs.unchecked.copy_in_full_room.Goals as goal

pub slice_bounds-heads-end : goal.slice_bounds-heads-end
slice_bounds-heads-end c = c.requires.0.of_offsets.few

pub slice_bounds-copy_in-end : goal.slice_bounds-copy_in-end
slice_bounds-copy_in-end c = sym (part_of_room 4097 _ 0 c.requires.0.of_offsets.few)

pub slice_bounds-cells-end : goal.slice_bounds-cells-end
slice_bounds-cells-end c = c.requires.0.of_columns.few

pub slice_bounds-copy_in-end-2 : goal.slice_bounds-copy_in-end-2
slice_bounds-copy_in-end-2 c = sym (part_of_room 65535 _ 0 c.requires.0.of_columns.few)

pub slice_bounds-pivots-end : goal.slice_bounds-pivots-end
slice_bounds-pivots-end c = c.requires.0.of_diagonal.few

pub slice_bounds-copy_in-end-3 : goal.slice_bounds-copy_in-end-3
slice_bounds-copy_in-end-3 c = sym (part_of_room 36864 _ (of_bits binary64 0) c.requires.0.of_diagonal.few)

pub slice_bounds-blocks-end : goal.slice_bounds-blocks-end
slice_bounds-blocks-end c = end_of_room 589815 _ (of_bits binary64 0) c.requires.0.of_values.few

pub slice_bounds-copy_in-end-4 : goal.slice_bounds-copy_in-end-4
slice_bounds-copy_in-end-4 c = sym (part_of_room 589815 _ (of_bits binary64 0) c.requires.0.of_values.few)

pub slice_bounds-offs-end : goal.slice_bounds-offs-end
slice_bounds-offs-end c = c.requires.1.matrix.of_offsets.few

pub slice_bounds-copy_in-end-5 : goal.slice_bounds-copy_in-end-5
slice_bounds-copy_in-end-5 c = sym (part_of_room 4097 _ 0 c.requires.1.matrix.of_offsets.few)

pub slice_bounds-cols-end : goal.slice_bounds-cols-end
slice_bounds-cols-end c = c.requires.1.matrix.of_columns.few

pub slice_bounds-copy_in-end-6 : goal.slice_bounds-copy_in-end-6
slice_bounds-copy_in-end-6 c = sym (part_of_room 65535 _ 0 c.requires.1.matrix.of_columns.few)

pub slice_bounds-cuts-end : goal.slice_bounds-cuts-end
slice_bounds-cuts-end c = c.requires.1.of_splits.few

pub slice_bounds-copy_in-end-7 : goal.slice_bounds-copy_in-end-7
slice_bounds-copy_in-end-7 c = sym (part_of_room 4096 _ 0 c.requires.1.of_splits.few)

pub slice_bounds-diag-end : goal.slice_bounds-diag-end
slice_bounds-diag-end c = c.requires.1.matrix.of_diagonal.few

pub slice_bounds-copy_in-end-8 : goal.slice_bounds-copy_in-end-8
slice_bounds-copy_in-end-8 c = sym (part_of_room 36864 _ (of_bits binary64 0) c.requires.1.matrix.of_diagonal.few)

pub slice_bounds-vals-end : goal.slice_bounds-vals-end
slice_bounds-vals-end c = end_of_room 589815 _ (of_bits binary64 0) c.requires.1.matrix.of_values.few

pub slice_bounds-copy_in-end-9 : goal.slice_bounds-copy_in-end-9
slice_bounds-copy_in-end-9 c = sym (part_of_room 589815 _ (of_bits binary64 0) c.requires.1.matrix.of_values.few)

pub copy_in-requires : goal.copy_in-requires
copy_in-requires c = (
  filled 4096 65535 c.args.dim _ _ _ _ _ _ _ _ c.requires.0 (part_of_room 4097 _ 0 c.requires.0.of_offsets.few) (part_of_room 65535 _ 0 c.requires.0.of_columns.few)
      (part_of_room 589815 _ (of_bits binary64 0) c.requires.0.of_values.few) (part_of_room 36864 _ (of_bits binary64 0) c.requires.0.of_diagonal.few),
  filled_factor 4096 65535 c.args.dim _ _ _ _ _ _ _ _ _ _ c.requires.1 (part_of_room 4097 _ 0 c.requires.1.matrix.of_offsets.few) (part_of_room 65535 _ 0 c.requires.1.matrix.of_columns.few) (part_of_room 4096 _ 0 c.requires.1.of_splits.few)
      (part_of_room 36864 _ (of_bits binary64 0) c.requires.1.matrix.of_diagonal.few) (part_of_room 589815 _ (of_bits binary64 0) c.requires.1.matrix.of_values.few),
)

pub shape_of-diagonal : goal.shape_of-diagonal
shape_of-diagonal c = c.copy_in.auto.diagonal

pub shape_of-values : goal.shape_of-values
shape_of-values c = c.copy_in.auto.values

pub returns : goal.returns
returns c = c.copy_in.ensures
