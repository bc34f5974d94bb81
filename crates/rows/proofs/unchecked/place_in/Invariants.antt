-- `unchecked::place_in` meets its promise: the column is at none of the places passed.
-- Assumes nothing.
use mathlib.Core.Path.{◌≡◌}
use mathlib.Core.Bool.{true}
use Rattle.patterns.specs.Pattern.{absent_to}
use Rattle.rows.proofs.unchecked.place_in.Given as goal

abbrev pub invariant-loop-k : goal.invariant-loop-k
invariant-loop-k l = absent_to l.row l.column l.k ≡ true
