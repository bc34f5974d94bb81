-- `unchecked::does_rest_rise` meets its promise: the steps so far rise, and one that does not decides.
-- Assumes nothing.
use mathlib.Core.Path.{◌≡◌, sym}
use Prim.Native.Nat.{◌+◌, ◌-◌}
use native.Mathlib.Omega.{arith}
use lib.ListN.{length}
use borrow.Author.Tests.{lt-ltb, le-ltb}
use Rattle.base.proofs.All.{all_more, all_stop}
use Rattle.patterns.specs.Pattern.{rises}
use Rattle.patterns.proofs.unchecked.does_rest_rise.Goals as goal

pub returns-then-row-k : goal.returns-then-row-k
unfolding rises
returns-then-row-k c =
    let e : c.loop-k.k - 1 + 1 ≡ c.loop-k.k = omega arith in
    sym (all_stop _ (c.loop-k.k - 1) _ (omega arith) (rw e (le-ltb _ _ c.if-row-k.true)))

pub loop-k-preserved : goal.loop-k-preserved
loop-k-preserved c =
    let e : c.loop-k.k - 1 + 1 ≡ c.loop-k.k = omega arith in
    let next : c.loop-k.k + 1 - 1 ≡ c.loop-k.k - 1 + 1 = omega arith in
    (omega arith, rw next (all_more _ (c.loop-k.k - 1) c.loop-k.invariant.1 (rw e (lt-ltb _ _ c.if-row-k.false))))

pub returns : goal.returns
unfolding rises
returns c =
    let e : c.loop-k.k - 1 ≡ length c.args.row.now - 1 = omega arith in
    sym (rw e at c.loop-k.invariant.1)
