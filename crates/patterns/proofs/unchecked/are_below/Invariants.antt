-- `unchecked::are_below` meets its promise: the flag says whether the columns so far are below n.
-- Assumes nothing.
use mathlib.Core.Path.{◌≡◌}
use lib.ListN.{get_or}
use lib.Dec.{ltb}
use Rattle.base.specs.All.{all_to}
use Rattle.patterns.proofs.unchecked.are_below.Given as goal

abbrev pub invariant-loop-column : goal.invariant-loop-column
invariant-loop-column l = l.right ≡ all_to (λ k. ltb (get_or l.columns k 0) l.n) l.column-index
