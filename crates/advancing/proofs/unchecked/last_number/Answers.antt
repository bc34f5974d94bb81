-- `unchecked::last_number` meets its promise.
-- Assumes nothing.
use native.Mathlib.Omega.{arith}
use Rattle.advancing.proofs.OverLaws.{last_of_first}
use Rattle.advancing.proofs.unchecked.last_number.Goals as goal

pub returns : goal.returns
returns c = last_of_first c.args.history.now c.args.count _ _ (omega (arith, c.if-count-eq0.false)) c.requires
