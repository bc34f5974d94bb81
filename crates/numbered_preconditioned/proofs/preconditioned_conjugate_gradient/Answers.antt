-- `preconditioned_conjugate_gradient` meets its promise: at 1, 2, 3 it is the call of `preconditioned_gradient`, and at any other N it is refused.
-- Assumes nothing.
use mathlib.Core.Path.{refl}
use mathlib.Core.Bool.{◌||◌}
use lib.ListN.{length}
use Rattle.patterns.specs.Checks.{too_large}
use Rattle.solvers.specs.Method.{matrix_of}
use Rattle.solvers.specs.Solvers.{factor_as}
use Rattle.solvers.specs.Promise.{lent_of}
use Rattle.numbered_gradient.proofs.NumberedLaws.{solve_at_no_dim}
use Rattle.numbered_preconditioned.proofs.NumberedLaws.{at_dim}
use Rattle.numbered_preconditioned.proofs.preconditioned_conjugate_gradient.Goals as goal

pub shape_of-r-in-1 : goal.shape_of-r-in-1
shape_of-r-in-1 c = c.preconditioned_conjugate_gradient.auto.r

pub shape_of-x-in-1 : goal.shape_of-x-in-1
shape_of-x-in-1 c = c.preconditioned_conjugate_gradient.auto.x

pub shape_of-pr-in-1 : goal.shape_of-pr-in-1
shape_of-pr-in-1 c = c.preconditioned_conjugate_gradient.auto.pr

pub shape_of-p-in-1 : goal.shape_of-p-in-1
shape_of-p-in-1 c = c.preconditioned_conjugate_gradient.auto.p

pub shape_of-history-in-1 : goal.shape_of-history-in-1
shape_of-history-in-1 c = c.preconditioned_conjugate_gradient.auto.history

pub returns-in-1 : goal.returns-in-1
returns-in-1 c =
    let a = c.args in
    rw c.in-1.is (at_dim 1 refl a.limit (matrix_of a.starts.now a.entries.now a.a_values.now a.a_diagonal.now)
    (factor_as a.offsets.now a.columns.now a.splits.now a.diagonal.now a.values.now) a.tolerance (lent_of a.r.now a.x.now a.pr.now a.p.now a.history.now) _ _
    c.preconditioned_conjugate_gradient.ensures)

pub shape_of-r-in-2 : goal.shape_of-r-in-2
shape_of-r-in-2 c = c.preconditioned_conjugate_gradient-in-2.auto.r

pub shape_of-x-in-2 : goal.shape_of-x-in-2
shape_of-x-in-2 c = c.preconditioned_conjugate_gradient-in-2.auto.x

pub shape_of-pr-in-2 : goal.shape_of-pr-in-2
shape_of-pr-in-2 c = c.preconditioned_conjugate_gradient-in-2.auto.pr

pub shape_of-p-in-2 : goal.shape_of-p-in-2
shape_of-p-in-2 c = c.preconditioned_conjugate_gradient-in-2.auto.p

pub shape_of-history-in-2 : goal.shape_of-history-in-2
shape_of-history-in-2 c = c.preconditioned_conjugate_gradient-in-2.auto.history

pub returns-in-2 : goal.returns-in-2
returns-in-2 c =
    let a = c.args in
    rw c.in-2.is (at_dim 2 refl a.limit (matrix_of a.starts.now a.entries.now a.a_values.now a.a_diagonal.now)
    (factor_as a.offsets.now a.columns.now a.splits.now a.diagonal.now a.values.now) a.tolerance (lent_of a.r.now a.x.now a.pr.now a.p.now a.history.now) _ _
    c.preconditioned_conjugate_gradient-in-2.ensures)

pub shape_of-r-in-3 : goal.shape_of-r-in-3
shape_of-r-in-3 c = c.preconditioned_conjugate_gradient-in-3.auto.r

pub shape_of-x-in-3 : goal.shape_of-x-in-3
shape_of-x-in-3 c = c.preconditioned_conjugate_gradient-in-3.auto.x

pub shape_of-pr-in-3 : goal.shape_of-pr-in-3
shape_of-pr-in-3 c = c.preconditioned_conjugate_gradient-in-3.auto.pr

pub shape_of-p-in-3 : goal.shape_of-p-in-3
shape_of-p-in-3 c = c.preconditioned_conjugate_gradient-in-3.auto.p

pub shape_of-history-in-3 : goal.shape_of-history-in-3
shape_of-history-in-3 c = c.preconditioned_conjugate_gradient-in-3.auto.history

pub returns-in-3 : goal.returns-in-3
returns-in-3 c =
    let a = c.args in
    rw c.in-3.is (at_dim 3 refl a.limit (matrix_of a.starts.now a.entries.now a.a_values.now a.a_diagonal.now)
    (factor_as a.offsets.now a.columns.now a.splits.now a.diagonal.now a.values.now) a.tolerance (lent_of a.r.now a.x.now a.pr.now a.p.now a.history.now) _ _
    c.preconditioned_conjugate_gradient-in-3.ensures)

pub returns-in_default : goal.returns-in_default
returns-in_default c =
    let a = c.args in
    let other = c.in_default.in_default-own.rest in
    solve_at_no_dim a.dim other.0.0.1 other.0.1 other.1
    (too_large (length a.starts.now) (length a.entries.now) || too_large (length a.offsets.now) (length a.columns.now)) a.limit _ _ _
    (rw c.is_either_too_large-large.ensures at c.solve_refusal.ensures) _ _
