-- `unchecked::is_right_run` meets its promise: the part that is lent is the row, every mark is below the next stamp, the rows so far are right, and the next begins where they end.
-- Assumes nothing.
use mathlib.Core.Path.{◌≡◌}
use mathlib.Core.Bool.{true}
use Prim.Native.Nat.{◌+◌, ◌-◌}
use lib.ListN.{get_or}
use Rattle.patterns.specs.Steps.{rows_right}
use Rattle.patterns.specs.Marks.{Below}
use Rattle.patterns.proofs.unchecked.is_right_run.Given as goal

abbrev pub invariant-loop-i : goal.invariant-loop-i
invariant-loop-i l =
    (l.stamp ≡ l.i - l.first) × Below (l.stamp + 1) l.marks × (rows_right l.refused l.offsets l.columns l.i ≡ true) × (l.from ≡ get_or l.offsets l.i 0)
