-- `unchecked::clear_bytes` meets its promise: after i turns the first i bytes are 0.
-- Assumes nothing.
use mathlib.Core.Path.{◌≡◌}
use mathlib.Core.List.{◌++◌}
use Prim.Native.Nat.{◌-◌, ◌≤◌}
use lib.ListN.{length, drop, replicate}
use Rattle.fill_way.proofs.unchecked.clear_bytes.Given as goal

abbrev pub invariant-loop-i : goal.invariant-loop-i
invariant-loop-i l = (length l.s ≡ length l.initial.s) × (l.i ≤ length l.initial.s) × (l.s ≡ replicate l.i 0 ++ drop l.i l.initial.s)

abbrev pub decreases-loop-i : goal.decreases-loop-i
decreases-loop-i l = length l.initial.s - l.i
