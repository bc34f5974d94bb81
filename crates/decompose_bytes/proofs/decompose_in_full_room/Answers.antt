-- `decompose_in_full_room` meets its promise: parts of its arrays are room for the words of the call.
-- Assumes nothing.
use mathlib.Core.Path.{sym}
use lib.Ieee.{binary64, of_bits}
use Rattle.pattern_bytes.proofs.RoomLaws.{part_of_room}
use Rattle.factor_bytes.proofs.RoomLaws.{filled_factor}
use Rattle.pattern_bytes.proofs.RoomLaws.{end_of_room}
use Rattle.decompose_bytes.proofs.decompose_in_full_room.Goals as goal

pub slice_bounds-offs-end : goal.slice_bounds-offs-end
slice_bounds-offs-end c = c.requires.matrix.of_offsets.few

pub slice_bounds-decompose_in-end : goal.slice_bounds-decompose_in-end
slice_bounds-decompose_in-end c = sym (part_of_room 4097 _ 0 c.requires.matrix.of_offsets.few)

pub slice_bounds-cols-end : goal.slice_bounds-cols-end
slice_bounds-cols-end c = c.requires.matrix.of_columns.few

pub slice_bounds-decompose_in-end-2 : goal.slice_bounds-decompose_in-end-2
slice_bounds-decompose_in-end-2 c = sym (part_of_room 65535 _ 0 c.requires.matrix.of_columns.few)

pub slice_bounds-cuts-end : goal.slice_bounds-cuts-end
slice_bounds-cuts-end c = c.requires.of_splits.few

pub slice_bounds-decompose_in-end-3 : goal.slice_bounds-decompose_in-end-3
slice_bounds-decompose_in-end-3 c = sym (part_of_room 4096 _ 0 c.requires.of_splits.few)

pub slice_bounds-diag-end : goal.slice_bounds-diag-end
slice_bounds-diag-end c = c.requires.matrix.of_diagonal.few

pub slice_bounds-decompose_in-end-4 : goal.slice_bounds-decompose_in-end-4
slice_bounds-decompose_in-end-4 c = sym (part_of_room 36864 _ (of_bits binary64 0) c.requires.matrix.of_diagonal.few)

pub slice_bounds-vals-end : goal.slice_bounds-vals-end
slice_bounds-vals-end c = end_of_room 589815 _ (of_bits binary64 0) c.requires.matrix.of_values.few

pub slice_bounds-decompose_in-end-5 : goal.slice_bounds-decompose_in-end-5
slice_bounds-decompose_in-end-5 c = sym (part_of_room 589815 _ (of_bits binary64 0) c.requires.matrix.of_values.few)

pub decompose_in-requires : goal.decompose_in-requires
decompose_in-requires c =
    filled_factor 4096 65535 c.args.dim _ _ _ _ _ _ _ _ _ _ c.requires (part_of_room 4097 _ 0 c.requires.matrix.of_offsets.few) (part_of_room 65535 _ 0 c.requires.matrix.of_columns.few) (part_of_room 4096 _ 0 c.requires.of_splits.few)
    (part_of_room 36864 _ (of_bits binary64 0) c.requires.matrix.of_diagonal.few) (part_of_room 589815 _ (of_bits binary64 0) c.requires.matrix.of_values.few)

pub shape_of-diagonal : goal.shape_of-diagonal
shape_of-diagonal c = c.decompose_in.auto.diagonal

pub shape_of-values : goal.shape_of-values
shape_of-values c = c.decompose_in.auto.values

pub returns : goal.returns
returns c = c.decompose_in.ensures
