-- `unchecked::write_rows` meets its promise: before row i the rows below it are written.
-- Assumes nothing.
use Prim.Native.Nat.{◌≤◌}
use lib.ListN.{length}
use Rattle.full.specs.Steps.{Roomy, Going}
use Rattle.full.proofs.unchecked.write_rows.Given as goal

abbrev pub invariant-loop-i : goal.invariant-loop-i
invariant-loop-i l = (l.at ≤ 65535) × Roomy l.n (length l.initial.offsets) (length l.initial.columns) (length l.initial.splits) × Going l.n l.i l.at l.initial.offsets l.initial.columns l.initial.splits l.offsets l.columns l.splits
