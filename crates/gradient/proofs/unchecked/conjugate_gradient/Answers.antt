-- `unchecked::conjugate_gradient` meets its promise: below epsilon nothing but the solution changes, and else the steps follow.
-- Assumes nothing.
use mathlib.Core.Path.{refl}
use lib.ListN.{length}
use Rattle.solvers.specs.Method.{matrix_of}
use Rattle.advancing.proofs.StepLaws.{ready_same}
use Rattle.gradient.proofs.StartLaws.{starts_empty, starts_steps}
use Rattle.gradient.proofs.unchecked.conjugate_gradient.Goals as goal

pub returns-then-square : goal.returns-then-square
returns-then-square g c =
    let a = c.args in
    starts_empty g.S.Size.DIM (matrix_of a.offsets.now a.columns.now a.values.now a.diagonal.now) a.tolerance a.limit a.r.now a.u.now a.ap.now a.p.now
    a.history.now _ c.dot-square.ensures _ c.set_zero.ensures c.if-square.true

pub turns-requires : goal.turns-requires
turns-requires g c =
    let a = c.args in
    (ready_same (length a.r.now) _ (length a.ap.now) _ c.requires.0 refl c.set_zero.auto.p refl c.copy.auto.p, c.requires.1)

pub returns : goal.returns
returns g c =
    let a = c.args in
    starts_steps g.S.Size.DIM (matrix_of a.offsets.now a.columns.now a.values.now a.diagonal.now) a.tolerance a.limit a.r.now a.u.now a.ap.now a.p.now
    a.history.now _ c.dot-square.ensures _ _ _ _ _ _ _ _ c.set_zero.ensures c.copy.ensures c.if-square.false c.turns.ensures
