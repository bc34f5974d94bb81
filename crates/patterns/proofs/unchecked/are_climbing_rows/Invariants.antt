-- `unchecked::are_climbing_rows` meets its promise: the part that is lent is the row, and the rows so far climb.
-- Assumes nothing.
use mathlib.Core.Path.{◌≡◌}
use mathlib.Core.Bool.{true}
use Rattle.patterns.specs.Steps.{rows_climb}
use Rattle.patterns.proofs.unchecked.are_climbing_rows.Given as goal

abbrev pub invariant-loop-i : goal.invariant-loop-i
invariant-loop-i l = rows_climb l.refused l.offsets l.columns l.i ≡ true
