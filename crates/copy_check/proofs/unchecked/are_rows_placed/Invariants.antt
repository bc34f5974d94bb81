-- `unchecked::are_rows_placed` meets its promise: after i turns the first i rows are placed, and every mark is below the next stamp.
-- Assumes nothing.
use Prim.Native.Nat.{◌+◌}
use Rattle.patterns.specs.Marks.{Below}
use Rattle.copy_check.specs.Stamps.{PlacedRows}
use Rattle.copy_check.proofs.unchecked.are_rows_placed.Given as goal

abbrev pub invariant-loop-i : goal.invariant-loop-i
invariant-loop-i l = (Below (l.stamp + 1) l.marks) × (PlacedRows l.starts l.entries l.offsets l.columns l.i)
