-- `unchecked::are_rest_taken` meets its promise: after k turns the first k columns have taken their stamps.
-- Assumes nothing.
use mathlib.Core.Path.{◌≡◌}
use native.Mathlib.Omega.{arith}
use lib.ListN.{length}
use Rattle.copy_check.proofs.StampLaws.{takes_on, takes_to}
use Rattle.copy_check.proofs.unchecked.are_rest_taken.Goals as goal

pub loop-k-preserved : goal.loop-k-preserved
loop-k-preserved c =
    let call = c.is_next_taken in
    (call.ensures.0, takes_on c.loop-k.invariant.1 (call.ensures.1 c.if-not-is_next_taken.false))

pub returns : goal.returns
returns c =
    let e : c.loop-k.k ≡ length c.args.from.now = omega arith in
    (c.loop-k.invariant.0, λ _. takes_to e c.loop-k.invariant.1)
