-- `unchecked::are_below` meets its promise: the nodes passed are below n.
-- Assumes nothing.
use mathlib.Core.Path.{◌≡◌}
use mathlib.Core.Bool.{true}
use lib.Dec.{ltb}
use lib.ListN.{get_or}
use Rattle.base.specs.All.{all_to}
use Rattle.elements.proofs.unchecked.are_below.Given as goal

abbrev pub invariant-loop-node : goal.invariant-loop-node
invariant-loop-node l = (all_to (λ k. ltb (get_or l.nodes k 0) l.n) l.node-index ≡ true)
