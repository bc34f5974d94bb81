-- `unchecked::preconditioned_conjugate_gradient` meets its promise: below epsilon nothing but the solution and one norm is written, and else the steps follow.
-- Assumes nothing.
use mathlib.Core.Path.{refl, ◌∙◌}
use native.Mathlib.Omega.{arith}
use lib.ListN.{length}
use Rattle.solvers.specs.Method.{matrix_of}
use Rattle.solvers.specs.Solvers.{factor_as}
use Rattle.advancing.proofs.StepLaws.{ready_same}
use Rattle.factor_steps.proofs.TurnLaws.{of_rows}
use Rattle.factor_steps.proofs.StartLaws.{starts_empty, starts_steps}
use Rattle.factor_steps.proofs.unchecked.preconditioned_conjugate_gradient.Goals as goal

pub returns-then-square : goal.returns-then-square
returns-then-square g c =
    let a = c.args in
    starts_empty g.S.Size.DIM (matrix_of a.starts.now a.entries.now a.terms.now a.own.now) (factor_as a.offsets.now a.columns.now a.splits.now a.diagonal.now a.values.now) a.tolerance a.limit a.r.now a.x.now a.pr.now a.p.now
    a.history.now _ _ c.dot-square.ensures c.square_root-norm.ensures.0 _ (omega (arith, c.requires.2)) c.set_zero.ensures c.if-square.true

pub precondition-rho-requires : goal.precondition-rho-requires
precondition-rho-requires g c =
    (c.requires.1.fits, of_rows c.requires.1 c.requires.0.of_q, of_rows c.requires.1 c.requires.0.of_r)

pub turns-requires : goal.turns-requires
turns-requires g c =
    let a = c.args in
    (ready_same (length a.r.now) _ _ _ c.requires.0 refl c.set_zero.auto.p c.precondition-rho.auto.q c.copy.auto.p, c.requires.1, c.requires.2, c.requires.3)

pub shape_of-x : goal.shape_of-x
shape_of-x g c = c.turns.auto.x ∙ c.set_zero.auto.p

pub returns : goal.returns
returns g c =
    let a = c.args in
    starts_steps g.S.Size.DIM (matrix_of a.starts.now a.entries.now a.terms.now a.own.now) (factor_as a.offsets.now a.columns.now a.splits.now a.diagonal.now a.values.now) a.tolerance a.limit a.r.now a.x.now a.pr.now a.p.now
    a.history.now _ _ c.dot-square.ensures c.square_root-norm.ensures.0 _ _ _ _ _ _ _ _ _ _ c.requires.1 c.set_zero.ensures c.precondition-rho.ensures
    c.copy.ensures c.if-square.false c.turns.ensures
