-- `unchecked::does_rest_climb` meets its promise: what is left of the row decides as all of it did.
-- Assumes nothing.
use mathlib.Core.Path.{◌≡◌}
use lib.ListN.{drop}
use Rattle.patterns.specs.Steps.{climbs}
use Rattle.patterns.proofs.unchecked.does_rest_climb.Given as goal

abbrev pub invariant-loop-column : goal.invariant-loop-column
invariant-loop-column l = climbs l.n l.own l.first l.rest ≡ climbs l.n l.own l.least (drop l.column-index l.rest)
