-- `unchecked::put_rest` meets its promise: after k turns the values up to place k are put.
-- Assumes nothing.
use mathlib.Core.Path.{◌≡◌}
use Prim.Native.Nat.{◌-◌, ◌≤◌}
use lib.ListN.{length}
use Rattle.base.specs.Iterate.{iterate}
use Rattle.copy_rows.specs.Scatter.{put_marked}
use Rattle.copy_rows.proofs.unchecked.put_rest.Given as goal

abbrev pub invariant-loop-k : goal.invariant-loop-k
invariant-loop-k l = (length l.out ≡ length l.initial.out) × (l.start ≤ l.k) × (l.k ≤ length l.from) × (l.out ≡ iterate (put_marked l.from l.first l.values l.marks) l.start l.k l.initial.out)

abbrev pub decreases-loop-k : goal.decreases-loop-k
decreases-loop-k l = length l.from - l.k
