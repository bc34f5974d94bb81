-- `unchecked::stamp_row` meets its promise: after k turns only columns of the row have the stamp.
-- Assumes nothing.
use Prim.Native.Nat.{◌+◌}
use Rattle.patterns.specs.Marks.{Below}
use Rattle.copy_check.specs.Stamps.{Only}
use Rattle.copy_check.proofs.unchecked.stamp_row.Given as goal

abbrev pub invariant-loop-column : goal.invariant-loop-column
invariant-loop-column l = (Below (l.stamp + 1) l.marks) × (Only l.stamp l.row l.marks)
