-- `unchecked::are_wrong_vectors` meets its promise: at each N it is the test of that size.
-- Assumes nothing.
use native.Mathlib.Omega.{arith}
use mathlib.Core.Path.{◌≡◌}
use Rattle.solver_bytes.proofs.unchecked.are_wrong_vectors.Goals as goal

pub returns-in-1 : goal.returns-in-1
returns-in-1 c = rw c.in-1.is c.are_wrong_vectors.ensures

pub returns-in-2 : goal.returns-in-2
returns-in-2 c = rw c.in-2.is c.are_wrong_vectors-in-2.ensures

pub returns-in_default : goal.returns-in_default
returns-in_default c =
    let other = c.in_default.in_default-own.rest in
    let three : c.args.dim ≡ 3 = omega (arith, c.requires.0.least, c.requires.0.most, other) in
    rw three c.are_wrong_vectors-in_default.ensures
