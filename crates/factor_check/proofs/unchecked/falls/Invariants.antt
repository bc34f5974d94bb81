-- `unchecked::falls` meets its promise: after e turns the first e steps are counted.
-- Assumes nothing.
use mathlib.Core.Path.{◌≡◌}
use Prim.Native.Nat.{◌-◌, ◌≤◌}
use lib.ListN.{length}
use Rattle.factor_check.specs.Steps.{count_to, falls_at}
use Rattle.factor_check.proofs.unchecked.falls.Given as goal

abbrev pub invariant-loop-e : goal.invariant-loop-e
invariant-loop-e l = (l.e ≤ length l.columns) × (l.count ≡ count_to (falls_at l.columns) l.e)

abbrev pub decreases-loop-e : goal.decreases-loop-e
decreases-loop-e l = length l.columns - l.e
