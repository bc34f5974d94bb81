-- `unchecked::are_below` meets its promise: a node that is not below n stops the search.
-- Assumes nothing.
use Rattle.std.proofs.Common.{length, get_or, sym, rules}
use lib.Dec.{ltb}
use borrow.Author.Tests.{le-ltb}
use Rattle.base.proofs.All.{all_stop}
use Rattle.patterns.specs.Pattern.{all_below}
use Rattle.elements.proofs.unchecked.are_below.Goals as goal

pub returns-then-node-n : goal.returns-then-node-n
unfolding all_below
returns-then-node-n c =
    let a = c.args in
    sym (all_stop (λ k. ltb (get_or a.nodes.now k 0) a.n) c.loop-node.node-index (length a.nodes.now) (search rules) (le-ltb _ _ c.if-node-n.true))
