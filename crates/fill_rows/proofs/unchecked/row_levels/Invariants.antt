-- `unchecked::row_levels` meets its promise: before p the row holds the levels by A and by rows below p, within its span.
-- Assumes nothing.
use Prim.Native.Nat.{◌≤◌}
use lib.ListN.{length}
use Rattle.fill.specs.Fill.{stored}
use Rattle.fill.specs.Steps.{Levelled, Within}
use Rattle.fill_rows.proofs.unchecked.row_levels.Given as goal

abbrev pub invariant-loop-p : goal.invariant-loop-p
invariant-loop-p l = Levelled (stored l.starts l.entries) l.k (length l.initial.row) l.p l.i l.row × Within l.low l.high l.row × (l.low ≤ l.high) × (l.high ≤ length l.initial.row)
