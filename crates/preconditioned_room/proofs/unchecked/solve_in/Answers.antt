-- `unchecked::solve_in` meets its promise: the solve with the decoded words of the matrix.
-- Assumes nothing.
use Prim.Native.Nat.{◌/◌}
use lib.ListN.{length}
use lib.Ieee.{binary64}
use Rattle.solver_bytes.specs.Lent.{bytes_lent}
use Rattle.preconditioned_room.specs.Rooms.{factor_in}
use Rattle.preconditioned_room.proofs.WayLaws.{matrix_at, matrix_of_bytes}
use Rattle.preconditioned_room.proofs.unchecked.solve_in.Goals as goal

pub decode_pattern-requires : goal.decode_pattern-requires
decode_pattern-requires c = (c.requires.0.of_offsets, c.requires.0.of_columns)

pub decode_both-requires : goal.decode_both-requires
decode_both-requires c = (c.requires.0.of_values, c.requires.0.of_diagonal)

pub solve_bytes-requires : goal.solve_bytes-requires
solve_bytes-requires c =
    let pattern = c.decode_pattern.auto in
    let blocks = c.decode_both.auto in
    let a = c.args in (
      c.requires.1,
      c.requires.2,
      matrix_at a.dim a.limit _ _ _ _ (length a.offsets.now / 4) (length a.columns.now / 4) (length a.splits.now / 4) (length a.diagonal.now / 8) (length a.values.now / 8) (length a.r.now) (length a.x.now) (length a.pr.now) (length a.p.now) (length a.heads.now) (length a.cells.now) (length a.blocks.now) (length a.pivots.now)
          pattern.offs pattern.cols blocks.first blocks.second c.requires.3,
    )

pub shape_of-heads : goal.shape_of-heads
shape_of-heads c = c.decode_pattern.auto.offs

pub shape_of-cells : goal.shape_of-cells
shape_of-cells c = c.decode_pattern.auto.cols

pub shape_of-blocks : goal.shape_of-blocks
shape_of-blocks c = c.decode_both.auto.first

pub shape_of-pivots : goal.shape_of-pivots
shape_of-pivots c = c.decode_both.auto.second

pub shape_of-r : goal.shape_of-r
shape_of-r c = c.solve_bytes.auto.r

pub shape_of-x : goal.shape_of-x
shape_of-x c = c.solve_bytes.auto.x

pub shape_of-pr : goal.shape_of-pr
shape_of-pr c = c.solve_bytes.auto.pr

pub shape_of-p : goal.shape_of-p
shape_of-p c = c.solve_bytes.auto.p

pub shape_of-history : goal.shape_of-history
shape_of-history c = c.solve_bytes.auto.history

pub returns : goal.returns
returns c =
    let a = c.args in
    let pattern = c.decode_pattern.ensures in
    let blocks = c.decode_both.ensures in
    matrix_of_bytes a.dim a.limit a.tolerance (factor_in binary64 a.offsets.now a.columns.now a.splits.now a.diagonal.now a.values.now)
    a.starts.now a.entries.now a.a_values.now a.a_diagonal.now _ _ _ _
    (bytes_lent a.r.now a.x.now a.pr.now a.p.now a.history.now) _ _ pattern.0 pattern.1 blocks.0 blocks.1 c.solve_bytes.ensures
