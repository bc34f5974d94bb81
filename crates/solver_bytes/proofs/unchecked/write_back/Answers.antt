-- `unchecked::write_back` meets its promise: after a solution every slice is encoded, and after a refusal none.
-- Assumes nothing.
use native.Mathlib.Omega.{arith}
use lib.Ieee.{binary64}
use Rattle.solvers.specs.Promise.{lent_of}
use Rattle.solver_bytes.specs.Lent.{bytes_lent}
use Rattle.solver_bytes.proofs.BackLaws.{ended_back}
use Rattle.solver_bytes.proofs.unchecked.write_back.Goals as goal

pub write_numbers-requires : goal.write_numbers-requires
write_numbers-requires c =
    let fits = rw c.in-Ok.is at c.requires.1 in
    (fits, omega (arith, fits, c.requires.2))

pub returns-in-Ok : goal.returns-in-Ok
returns-in-Ok c =
    let a = c.args in
    ended_back binary64 _ a.solve c.in-Ok.is (lent_of a.residual.now a.solution.now a.product.now a.direction.now a.numbers.now)
    (bytes_lent a.r.now a.x.now a.q.now a.p.now a.history.now) _ _ _ _ _
    c.encode_both.ensures.0 c.encode_both.ensures.1 c.encode_both-in-Ok.ensures.0 c.encode_both-in-Ok.ensures.1 c.write_numbers.ensures

pub returns-in-Err : goal.returns-in-Err
returns-in-Err c = rw c.in-Err.is
