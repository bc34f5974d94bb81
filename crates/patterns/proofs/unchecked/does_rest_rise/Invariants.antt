-- `unchecked::does_rest_rise` meets its promise: the steps so far rise, and one that does not decides.
-- Assumes nothing.
use mathlib.Core.Path.{◌≡◌}
use mathlib.Core.Bool.{true}
use Prim.Native.Nat.{◌-◌, ◌≤◌}
use lib.ListN.{length}
use Rattle.patterns.specs.Steps.{rises_to}
use Rattle.patterns.proofs.unchecked.does_rest_rise.Given as goal

abbrev pub invariant-loop-k : goal.invariant-loop-k
invariant-loop-k l = (l.k - 1 ≤ length l.row - 1) × (rises_to l.row (l.k - 1) ≡ true)
