-- `unchecked::mark_row` meets its promise: after k turns the first k columns are marked.
-- Assumes nothing.
use mathlib.Core.Path.{◌≡◌}
use lib.ListN.{length}
use Rattle.places.specs.Places.{MarkedTo}
use Rattle.places.proofs.unchecked.mark_row.Given as goal

abbrev pub invariant-loop-k : goal.invariant-loop-k
invariant-loop-k l = (length l.marks ≡ 4096) × MarkedTo l.row l.marks l.k
