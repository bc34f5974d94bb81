-- `unchecked::are_all_taken` meets its promise: four columns in a turn, then the rest.
-- Assumes nothing.
use native.Mathlib.Omega.{arith}
use Rattle.copy_check.proofs.StampLaws.{takes_on}
use Rattle.copy_check.proofs.unchecked.are_all_taken.Goals as goal

pub loop-k-preserved : goal.loop-k-preserved
loop-k-preserved c =
    let call = c.are_four_taken in
    (call.ensures.0, omega arith, takes_on c.loop-k.invariant.2 (call.ensures.1 c.if-not-are_four_taken.false))

pub returns : goal.returns
returns c =
    (c.are_rest_taken.ensures.0, λ e. takes_on c.loop-k.invariant.2 (c.are_rest_taken.ensures.1 e))
