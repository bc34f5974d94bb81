-- `unchecked::write_rows` meets its promise: before row i the rows below it are written.
-- Assumes nothing.
use Prim.Native.Nat.{◌≤◌}
use Rattle.fill.specs.Fill.{stored}
use Rattle.fill.specs.Steps.{Going}
use Rattle.iluk.proofs.unchecked.write_rows.Given as goal

abbrev pub invariant-loop-i : goal.invariant-loop-i
invariant-loop-i l = (l.at ≤ 65535) × Going (stored l.starts l.entries) l.k l.n l.i l.at l.initial.offsets l.initial.columns l.initial.splits l.initial.levels l.offsets l.columns l.splits l.levels l.row
