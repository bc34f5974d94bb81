-- `unchecked::put_all` meets its promise: four values in a turn, then the rest.
-- Assumes nothing.
use mathlib.Core.Path.{◌≡◌}
use Prim.Native.Nat.{◌-◌, ◌≤◌}
use lib.ListN.{length}
use Rattle.base.specs.Iterate.{iterate}
use Rattle.copy_rows.specs.Scatter.{put_marked}
use Rattle.copy_rows.proofs.unchecked.put_all.Given as goal

abbrev pub invariant-loop-k : goal.invariant-loop-k
invariant-loop-k l = (length l.out ≡ length l.initial.out) × (l.k ≤ length l.from) × (l.out ≡ iterate (put_marked l.from l.first l.values l.marks) 0 l.k l.initial.out)

abbrev pub decreases-loop-k : goal.decreases-loop-k
decreases-loop-k l = length l.from - l.k
