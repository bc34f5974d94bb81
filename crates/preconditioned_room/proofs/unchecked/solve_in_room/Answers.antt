-- `unchecked::solve_in_room` meets its promise: parts of its arrays are room for the words of the matrix.
-- Assumes nothing.
use mathlib.Core.Path.{sym}
use Prim.Native.Nat.{ℕ, ◌/◌}
use lib.ListN.{length}
use lib.Ieee.{Float, binary64, of_bits}
use Rattle.pattern_bytes.proofs.RoomLaws.{part_of_room}
use Rattle.matrix_bytes.proofs.WayLaws.{filled}
use Rattle.preconditioned_room.proofs.WayLaws.{matrix_at}
use Rattle.pattern_bytes.proofs.RoomLaws.{end_of_room}
use Rattle.preconditioned_room.proofs.unchecked.solve_in_room.Goals as goal

pub slice_bounds-heads-end : goal.slice_bounds-heads-end
slice_bounds-heads-end c = c.requires.0.of_offsets.few

pub slice_bounds-solve_in-end : goal.slice_bounds-solve_in-end
slice_bounds-solve_in-end c = sym (part_of_room 4097 _ 0 c.requires.0.of_offsets.few)

pub slice_bounds-cells-end : goal.slice_bounds-cells-end
slice_bounds-cells-end c = c.requires.0.of_columns.few

pub slice_bounds-solve_in-end-2 : goal.slice_bounds-solve_in-end-2
slice_bounds-solve_in-end-2 c = sym (part_of_room 65535 _ 0 c.requires.0.of_columns.few)

pub slice_bounds-blocks-end : goal.slice_bounds-blocks-end
slice_bounds-blocks-end c = end_of_room 589815 _ (of_bits binary64 0) c.requires.0.of_values.few

pub slice_bounds-solve_in-end-3 : goal.slice_bounds-solve_in-end-3
slice_bounds-solve_in-end-3 c = sym (part_of_room 589815 _ (of_bits binary64 0) c.requires.0.of_values.few)

pub slice_bounds-pivots-end : goal.slice_bounds-pivots-end
slice_bounds-pivots-end c = c.requires.0.of_diagonal.few

pub slice_bounds-solve_in-end-4 : goal.slice_bounds-solve_in-end-4
slice_bounds-solve_in-end-4 c = sym (part_of_room 36864 _ (of_bits binary64 0) c.requires.0.of_diagonal.few)

pub solve_in-requires : goal.solve_in-requires
solve_in-requires c =
    let a = c.args in
    let held = c.requires.0 in (
      filled 4096 65535 c.args.dim _ _ _ _ _ _ _ _ held (part_of_room {A = ℕ} 4097 _ 0 held.of_offsets.few) (part_of_room {A = ℕ} 65535 _ 0 held.of_columns.few) (part_of_room {A = Float} 589815 _ (of_bits binary64 0) held.of_values.few) (part_of_room {A = Float} 36864 _ (of_bits binary64 0) held.of_diagonal.few),
      c.requires.1,
      c.requires.2,
      matrix_at a.dim a.limit _ _ _ _ (length a.offsets.now / 4) (length a.columns.now / 4) (length a.splits.now / 4) (length a.diagonal.now / 8) (length a.values.now / 8) (length a.r.now) (length a.x.now) (length a.pr.now) (length a.p.now)
          (length a.starts.now / 4) (length a.entries.now / 4) (length a.a_values.now / 8) (length a.a_diagonal.now / 8) (part_of_room {A = ℕ} 4097 _ 0 held.of_offsets.few) (part_of_room {A = ℕ} 65535 _ 0 held.of_columns.few) (part_of_room {A = Float} 589815 _ (of_bits binary64 0) held.of_values.few) (part_of_room {A = Float} 36864 _ (of_bits binary64 0) held.of_diagonal.few) c.requires.3,
    )

pub shape_of-r : goal.shape_of-r
shape_of-r c = c.solve_in.auto.r

pub shape_of-x : goal.shape_of-x
shape_of-x c = c.solve_in.auto.x

pub shape_of-pr : goal.shape_of-pr
shape_of-pr c = c.solve_in.auto.pr

pub shape_of-p : goal.shape_of-p
shape_of-p c = c.solve_in.auto.p

pub shape_of-history : goal.shape_of-history
shape_of-history c = c.solve_in.auto.history

pub returns : goal.returns
returns c = c.solve_in.ensures
