-- `conjugate_gradient` meets its promise: at 1, 2, 3 it is the call of `gradient`, and at any other N it is refused.
-- Assumes nothing.
use mathlib.Core.Path.{refl}
use lib.ListN.{length}
use Rattle.patterns.specs.Checks.{too_large}
use Rattle.solvers.specs.Method.{matrix_of}
use Rattle.solvers.specs.Promise.{lent_of}
use Rattle.numbered_gradient.proofs.NumberedLaws.{at_dim, solve_at_no_dim}
use Rattle.numbered_gradient.proofs.conjugate_gradient.Goals as goal

pub returns-in-1 : goal.returns-in-1
returns-in-1 c =
    let a = c.args in
    rw c.in-1.is (at_dim 1 refl a.limit (matrix_of a.offsets.now a.columns.now a.values.now a.diagonal.now) a.tolerance (lent_of a.r.now a.u.now a.ap.now a.p.now a.history.now) _ _ c.conjugate_gradient.ensures)

pub returns-in-2 : goal.returns-in-2
returns-in-2 c =
    let a = c.args in
    rw c.in-2.is (at_dim 2 refl a.limit (matrix_of a.offsets.now a.columns.now a.values.now a.diagonal.now) a.tolerance (lent_of a.r.now a.u.now a.ap.now a.p.now a.history.now) _ _ c.conjugate_gradient-in-2.ensures)

pub returns-in-3 : goal.returns-in-3
returns-in-3 c =
    let a = c.args in
    rw c.in-3.is (at_dim 3 refl a.limit (matrix_of a.offsets.now a.columns.now a.values.now a.diagonal.now) a.tolerance (lent_of a.r.now a.u.now a.ap.now a.p.now a.history.now) _ _ c.conjugate_gradient-in-3.ensures)

pub returns-in_default : goal.returns-in_default
returns-in_default c =
    let a = c.args in
    let other = c.in_default.in_default-own.rest in
    solve_at_no_dim a.dim other.0.0.1 other.0.1 other.1 (too_large (length a.offsets.now) (length a.columns.now)) a.limit _ _ _
    (rw c.is_too_large.ensures at c.solve_refusal.ensures) _ _
