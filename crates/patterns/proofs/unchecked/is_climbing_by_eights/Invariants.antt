-- `unchecked::is_climbing_by_eights` meets its promise: what is left of the row decides as all of it did.
-- Assumes nothing.
use mathlib.Core.Path.{◌≡◌}
use Prim.Native.Nat.{◌-◌, ◌≤◌}
use lib.ListN.{length, drop}
use Rattle.patterns.specs.Steps.{climbs}
use Rattle.patterns.proofs.unchecked.is_climbing_by_eights.Given as goal

abbrev pub invariant-loop-k : goal.invariant-loop-k
invariant-loop-k l = (l.k ≤ length l.row) × (climbs l.n l.own 0 l.row ≡ climbs l.n l.own l.least (drop l.k l.row))

abbrev pub decreases-loop-k : goal.decreases-loop-k
decreases-loop-k l = length l.row - l.k
