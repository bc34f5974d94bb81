-- `unchecked::count_marks` meets its promise: after each turn the marks below j are counted.
-- Assumes nothing.
use mathlib.Core.Path.{◌≡◌}
use Prim.Native.Nat.{◌≤◌, max}
use lib.ListN.{length}
use Rattle.fill.specs.Fill.{columns_from}
use Rattle.fill.specs.Steps.{levels_in}
use Rattle.fill_rows.proofs.unchecked.count_marks.Given as goal

abbrev pub invariant-loop-j : goal.invariant-loop-j
invariant-loop-j l = (l.j ≤ max l.low l.to) × (l.found ≤ l.j) × (l.found ≡ length (columns_from (levels_in l.row) 0 l.j))
