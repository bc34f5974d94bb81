-- `unchecked::solve_in_room` meets its promise: parts of its arrays are room for the words of the matrix.
-- Assumes nothing.
use mathlib.Core.Path.{sym}
use lib.Ieee.{binary64, of_bits}
use Rattle.pattern_bytes.proofs.RoomLaws.{part_of_room}
use Rattle.matrix_bytes.proofs.WayLaws.{filled}
use Rattle.gradient_bytes.proofs.WayLaws.{passed_at}
use Rattle.pattern_bytes.proofs.RoomLaws.{end_of_room}
use Rattle.gradient_bytes.proofs.unchecked.solve_in_room.Goals as goal

pub slice_bounds-offs-end : goal.slice_bounds-offs-end
slice_bounds-offs-end c = c.requires.0.of_offsets.few

pub slice_bounds-solve_in-end : goal.slice_bounds-solve_in-end
slice_bounds-solve_in-end c = sym (part_of_room 4097 _ 0 c.requires.0.of_offsets.few)

pub slice_bounds-cols-end : goal.slice_bounds-cols-end
slice_bounds-cols-end c = c.requires.0.of_columns.few

pub slice_bounds-solve_in-end-2 : goal.slice_bounds-solve_in-end-2
slice_bounds-solve_in-end-2 c = sym (part_of_room 65535 _ 0 c.requires.0.of_columns.few)

pub slice_bounds-vals-end : goal.slice_bounds-vals-end
slice_bounds-vals-end c = end_of_room 589815 _ (of_bits binary64 0) c.requires.0.of_values.few

pub slice_bounds-solve_in-end-3 : goal.slice_bounds-solve_in-end-3
slice_bounds-solve_in-end-3 c = sym (part_of_room 589815 _ (of_bits binary64 0) c.requires.0.of_values.few)

pub slice_bounds-diag-end : goal.slice_bounds-diag-end
slice_bounds-diag-end c = c.requires.0.of_diagonal.few

pub slice_bounds-solve_in-end-4 : goal.slice_bounds-solve_in-end-4
slice_bounds-solve_in-end-4 c = sym (part_of_room 36864 _ (of_bits binary64 0) c.requires.0.of_diagonal.few)

pub solve_in-requires : goal.solve_in-requires
solve_in-requires c =
    let held = c.requires.0 in (
      filled 4096 65535 c.args.dim _ _ _ _ _ _ _ _ held (part_of_room 4097 _ 0 held.of_offsets.few) (part_of_room 65535 _ 0 held.of_columns.few) (part_of_room 589815 _ (of_bits binary64 0) held.of_values.few) (part_of_room 36864 _ (of_bits binary64 0) held.of_diagonal.few),
      c.requires.1,
      passed_at c.args.dim c.args.limit _ _ _ _ _ _ _ _ _ _ _ _ (part_of_room 4097 _ 0 held.of_offsets.few) (part_of_room 65535 _ 0 held.of_columns.few) (part_of_room 589815 _ (of_bits binary64 0) held.of_values.few) (part_of_room 36864 _ (of_bits binary64 0) held.of_diagonal.few) c.requires.2,
    )

pub shape_of-r : goal.shape_of-r
shape_of-r c = c.solve_in.auto.r

pub shape_of-u : goal.shape_of-u
shape_of-u c = c.solve_in.auto.u

pub shape_of-ap : goal.shape_of-ap
shape_of-ap c = c.solve_in.auto.ap

pub shape_of-p : goal.shape_of-p
shape_of-p c = c.solve_in.auto.p

pub shape_of-history : goal.shape_of-history
shape_of-history c = c.solve_in.auto.history

pub returns : goal.returns
returns c = c.solve_in.ensures
