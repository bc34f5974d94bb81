-- `unchecked::solve_factor` meets its promise: the solve with the decoded words of the factor.
-- Assumes nothing.
use lib.ListN.{length}
use Rattle.solvers.specs.Method.{matrix_of}
use Rattle.solver_bytes.specs.Lent.{bytes_lent}
use Rattle.preconditioned_room.proofs.WayLaws.{factor_at, factor_of_bytes}
use Rattle.preconditioned_room.proofs.unchecked.solve_factor.Goals as goal

pub decode_factor-requires : goal.decode_factor-requires
decode_factor-requires c = c.requires.0

pub solve_words-requires : goal.solve_words-requires
solve_words-requires c =
    let kept = c.decode_factor.auto in
    let a = c.args in
    (c.requires.1, factor_at a.dim a.limit (length a.heads.now) (length a.cells.now) (length a.blocks.now) (length a.pivots.now) _ _ _ _ _ (length a.r.now) (length a.x.now) (length a.pr.now) (length a.p.now) (length a.offs.now) (length a.cols.now) (length a.cuts.now) (length a.diag.now) (length a.vals.now) kept.offs kept.cols kept.cuts kept.diag kept.vals c.requires.2)

pub shape_of-offs : goal.shape_of-offs
shape_of-offs c = c.decode_factor.auto.offs

pub shape_of-cols : goal.shape_of-cols
shape_of-cols c = c.decode_factor.auto.cols

pub shape_of-cuts : goal.shape_of-cuts
shape_of-cuts c = c.decode_factor.auto.cuts

pub shape_of-diag : goal.shape_of-diag
shape_of-diag c = c.decode_factor.auto.diag

pub shape_of-vals : goal.shape_of-vals
shape_of-vals c = c.decode_factor.auto.vals

pub shape_of-r : goal.shape_of-r
shape_of-r c = c.solve_words.auto.r

pub shape_of-x : goal.shape_of-x
shape_of-x c = c.solve_words.auto.x

pub shape_of-pr : goal.shape_of-pr
shape_of-pr c = c.solve_words.auto.pr

pub shape_of-p : goal.shape_of-p
shape_of-p c = c.solve_words.auto.p

pub shape_of-history : goal.shape_of-history
shape_of-history c = c.solve_words.auto.history

pub returns : goal.returns
returns c =
    let a = c.args in
    factor_of_bytes a.dim a.limit a.tolerance (matrix_of a.heads.now a.cells.now a.blocks.now a.pivots.now) a.offsets.now a.columns.now a.splits.now a.diagonal.now a.values.now _ _ _ _ _
    (bytes_lent a.r.now a.x.now a.pr.now a.p.now a.history.now) _ _ c.decode_factor.ensures c.solve_words.ensures
