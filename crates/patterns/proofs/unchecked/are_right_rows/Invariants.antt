-- `unchecked::are_right_rows` meets its promise: the runs so far are right, and a run that is not decides.
-- Assumes nothing.
use mathlib.Core.Path.{◌≡◌}
use mathlib.Core.Bool.{true}
use Prim.Native.Nat.{◌-◌, ◌≤◌}
use Rattle.patterns.specs.Pattern.{rows_of}
use Rattle.patterns.specs.Steps.{rows_right}
use Rattle.patterns.proofs.unchecked.are_right_rows.Given as goal

abbrev pub invariant-loop-i : goal.invariant-loop-i
invariant-loop-i l = (l.i ≤ l.rows) × (l.rows ≡ rows_of l.offsets) × (rows_right l.refused l.offsets l.columns l.i ≡ true)

abbrev pub decreases-loop-i : goal.decreases-loop-i
decreases-loop-i l = l.rows - l.i
