-- `Verdict::of_plain` meets its promise: each return is what 01 says of the count and the last ratio.
-- Assumes nothing.
use borrow.Author.Tests.{eq-eqb, ne_eqb}
use Rattle.solvers.proofs.Verdict.of_plain.Goals as goal

pub returns-then-count-eq0 : goal.returns-then-count-eq0
returns-then-count-eq0 c = rw (eq-eqb _ _ c.if-count-eq0.true)

pub returns-then-last-tolerance : goal.returns-then-last-tolerance
returns-then-last-tolerance c = rw (ne_eqb _ _ c.if-count-eq0.false, c.if-last-tolerance.true)

pub returns : goal.returns
returns c = rw (ne_eqb _ _ c.if-count-eq0.false, c.if-last-tolerance.false)
