-- `unchecked::solve_vectors` meets its promise: what the solve of the decoded words leaves is written back.
-- Assumes nothing.
use mathlib.Core.Path.{◌∙◌}
use native.Mathlib.Omega.{arith}
use Rattle.solver_bytes.specs.Lent.{bytes_lent}
use Rattle.preconditioned_room.proofs.WayLaws.{numbers_fit, solved_words}
use Rattle.preconditioned_room.proofs.unchecked.solve_vectors.Goals as goal

pub decode_vectors-requires : goal.decode_vectors-requires
decode_vectors-requires c = c.requires.2

pub write_back-requires : goal.write_back-requires
write_back-requires c =
    let a = c.args in
    let read = c.decode_vectors.auto in
    let ran = c.preconditioned_conjugate_gradient-solve.auto in (
      record {
        of_r = omega (arith, c.requires.2.of_r, read.residual, ran.r);
        of_x = omega (arith, c.requires.2.of_x, read.solution, ran.x);
        of_q = omega (arith, c.requires.2.of_q, read.product, ran.pr);
        of_p = omega (arith, c.requires.2.of_p, read.direction, ran.p);
      },
      numbers_fit a.dim a.limit a.tolerance a.heads.now a.cells.now a.blocks.now a.pivots.now a.offs.now a.cols.now a.cuts.now a.diag.now a.vals.now (bytes_lent a.r.now a.x.now a.pr.now a.p.now a.history.now)
          _ _ _ _ _ _ _ c.preconditioned_conjugate_gradient-solve.ensures,
      omega (arith, ran.history, c.requires.3, c.requires.0.enough),
    )

pub shape_of-residual : goal.shape_of-residual
shape_of-residual c = c.preconditioned_conjugate_gradient-solve.auto.r ∙ c.decode_vectors.auto.residual

pub shape_of-solution : goal.shape_of-solution
shape_of-solution c = c.preconditioned_conjugate_gradient-solve.auto.x ∙ c.decode_vectors.auto.solution

pub shape_of-product : goal.shape_of-product
shape_of-product c = c.preconditioned_conjugate_gradient-solve.auto.pr ∙ c.decode_vectors.auto.product

pub shape_of-direction : goal.shape_of-direction
shape_of-direction c = c.preconditioned_conjugate_gradient-solve.auto.p ∙ c.decode_vectors.auto.direction

pub shape_of-numbers : goal.shape_of-numbers
shape_of-numbers c = c.preconditioned_conjugate_gradient-solve.auto.history

pub shape_of-r : goal.shape_of-r
shape_of-r c = c.write_back.auto.r

pub shape_of-x : goal.shape_of-x
shape_of-x c = c.write_back.auto.x

pub shape_of-pr : goal.shape_of-pr
shape_of-pr c = c.write_back.auto.q

pub shape_of-p : goal.shape_of-p
shape_of-p c = c.write_back.auto.p

pub shape_of-history : goal.shape_of-history
shape_of-history c = c.write_back.auto.history

pub returns : goal.returns
returns c =
    let a = c.args in
    solved_words a.dim a.limit a.tolerance a.heads.now a.cells.now a.blocks.now a.pivots.now a.offs.now a.cols.now a.cuts.now a.diag.now a.vals.now (bytes_lent a.r.now a.x.now a.pr.now a.p.now a.history.now)
    _ _ _ _ _ _ _ c.preconditioned_conjugate_gradient-solve.ensures _ c.requires.0.range c.requires.1 c.decode_vectors.ensures c.requires.3 c.write_back.ensures
