-- `unchecked::solve_bytes` meets its promise: parts of its arrays are room for the words of the factor.
-- Assumes nothing.
use mathlib.Core.Path.{sym}
use Prim.Native.Nat.{ℕ, ◌/◌}
use lib.ListN.{length}
use lib.Ieee.{Float, binary64, of_bits}
use Rattle.pattern_bytes.proofs.RoomLaws.{part_of_room}
use Rattle.factor_bytes.proofs.RoomLaws.{filled_factor}
use Rattle.preconditioned_room.proofs.WayLaws.{factor_at}
use Rattle.pattern_bytes.proofs.RoomLaws.{end_of_room}
use Rattle.preconditioned_room.proofs.unchecked.solve_bytes.Goals as goal

pub slice_bounds-offs-end : goal.slice_bounds-offs-end
slice_bounds-offs-end c = c.requires.0.matrix.of_offsets.few

pub slice_bounds-solve_factor-end : goal.slice_bounds-solve_factor-end
slice_bounds-solve_factor-end c = sym (part_of_room 4097 _ 0 c.requires.0.matrix.of_offsets.few)

pub slice_bounds-cols-end : goal.slice_bounds-cols-end
slice_bounds-cols-end c = c.requires.0.matrix.of_columns.few

pub slice_bounds-solve_factor-end-2 : goal.slice_bounds-solve_factor-end-2
slice_bounds-solve_factor-end-2 c = sym (part_of_room 65535 _ 0 c.requires.0.matrix.of_columns.few)

pub slice_bounds-cuts-end : goal.slice_bounds-cuts-end
slice_bounds-cuts-end c = c.requires.0.of_splits.few

pub slice_bounds-solve_factor-end-3 : goal.slice_bounds-solve_factor-end-3
slice_bounds-solve_factor-end-3 c = sym (part_of_room 4096 _ 0 c.requires.0.of_splits.few)

pub slice_bounds-diag-end : goal.slice_bounds-diag-end
slice_bounds-diag-end c = c.requires.0.matrix.of_diagonal.few

pub slice_bounds-solve_factor-end-4 : goal.slice_bounds-solve_factor-end-4
slice_bounds-solve_factor-end-4 c = sym (part_of_room 36864 _ (of_bits binary64 0) c.requires.0.matrix.of_diagonal.few)

pub slice_bounds-vals-end : goal.slice_bounds-vals-end
slice_bounds-vals-end c = end_of_room 589815 _ (of_bits binary64 0) c.requires.0.matrix.of_values.few

pub slice_bounds-solve_factor-end-5 : goal.slice_bounds-solve_factor-end-5
slice_bounds-solve_factor-end-5 c = sym (part_of_room 589815 _ (of_bits binary64 0) c.requires.0.matrix.of_values.few)

pub solve_factor-requires : goal.solve_factor-requires
solve_factor-requires c =
    let a = c.args in
    let held = c.requires.0 in (
      filled_factor 4096 65535 c.args.dim _ _ _ _ _ _ _ _ _ _ held (part_of_room {A = ℕ} 4097 _ 0 held.matrix.of_offsets.few) (part_of_room {A = ℕ} 65535 _ 0 held.matrix.of_columns.few) (part_of_room {A = ℕ} 4096 _ 0 held.of_splits.few) (part_of_room {A = Float} 36864 _ (of_bits binary64 0) held.matrix.of_diagonal.few) (part_of_room {A = Float} 589815 _ (of_bits binary64 0) held.matrix.of_values.few),
      c.requires.1,
      factor_at a.dim a.limit (length a.heads.now) (length a.cells.now) (length a.blocks.now) (length a.pivots.now) _ _ _ _ _ (length a.r.now) (length a.x.now) (length a.pr.now) (length a.p.now)
          (length a.offsets.now / 4) (length a.columns.now / 4) (length a.splits.now / 4) (length a.diagonal.now / 8) (length a.values.now / 8) (part_of_room {A = ℕ} 4097 _ 0 held.matrix.of_offsets.few) (part_of_room {A = ℕ} 65535 _ 0 held.matrix.of_columns.few) (part_of_room {A = ℕ} 4096 _ 0 held.of_splits.few) (part_of_room {A = Float} 36864 _ (of_bits binary64 0) held.matrix.of_diagonal.few) (part_of_room {A = Float} 589815 _ (of_bits binary64 0) held.matrix.of_values.few) c.requires.2,
    )

pub shape_of-r : goal.shape_of-r
shape_of-r c = c.solve_factor.auto.r

pub shape_of-x : goal.shape_of-x
shape_of-x c = c.solve_factor.auto.x

pub shape_of-pr : goal.shape_of-pr
shape_of-pr c = c.solve_factor.auto.pr

pub shape_of-p : goal.shape_of-p
shape_of-p c = c.solve_factor.auto.p

pub shape_of-history : goal.shape_of-history
shape_of-history c = c.solve_factor.auto.history

pub returns : goal.returns
returns c = c.solve_factor.ensures
