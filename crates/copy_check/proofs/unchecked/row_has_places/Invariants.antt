-- `unchecked::row_has_places` meets its promise: columns at which the rows agree have their places, and each other is looked up.
-- Assumes nothing.
use mathlib.Core.Path.{◌≡◌}
use mathlib.Core.Bool.{true}
use Rattle.base.specs.All.{all_to}
use Rattle.factors.specs.Copy.{has_place}
use Rattle.places.specs.Places.{Marked}
use Rattle.copy_check.proofs.unchecked.row_has_places.Given as goal

abbrev pub invariant-loop-k : goal.invariant-loop-k
invariant-loop-k l = (Marked l.row l.marks) × (all_to (has_place l.row l.from) l.k ≡ true)
