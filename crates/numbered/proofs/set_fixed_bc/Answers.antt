-- `set_fixed_bc` meets its promise: at 1, 2, 3 it is the call of `fixing`, and at any other N it is refused.
-- Assumes nothing.
use lib.ListN.{length}
use Rattle.patterns.specs.Checks.{too_large}
use Rattle.numbered.proofs.NumberedLaws.{twice, at_no_dim}
use Rattle.numbered.proofs.set_fixed_bc.Goals as goal

pub returns-in-1 : goal.returns-in-1
returns-in-1 c =
    let a = c.args in
    rw c.in-1.is (twice _ _ _ _ _ (too_large (length a.offsets.now) (length a.columns.now)) c.set_fixed_bc.ensures)

pub returns-in-2 : goal.returns-in-2
returns-in-2 c =
    let a = c.args in
    rw c.in-2.is (twice _ _ _ _ _ (too_large (length a.offsets.now) (length a.columns.now)) c.set_fixed_bc-in-2.ensures)

pub returns-in-3 : goal.returns-in-3
returns-in-3 c =
    let a = c.args in
    rw c.in-3.is (twice _ _ _ _ _ (too_large (length a.offsets.now) (length a.columns.now)) c.set_fixed_bc-in-3.ensures)

pub returns-in_default : goal.returns-in_default
returns-in_default c =
    let a = c.args in
    let other = c.in_default.in_default-own.rest in
    at_no_dim a.dim other.0.0.1 other.0.1 other.1 (too_large (length a.offsets.now) (length a.columns.now)) _ _ c.refusal.ensures _ _
