-- `unchecked::add_bare_rest` meets its promise: what was alike before the entries from the given place up to k is so after them.
-- Assumes nothing.
use Rattle.std.proofs.Common.{List, Float, ◌≤◌}
use Rattle.std.specs.Float.{binary64}
use Rattle.base.specs.Iterate.{iterate}
use Rattle.matrix.specs.Alike.{RowsAlike}
use Rattle.matrix.specs.Product.{add_entry}
use Rattle.matrix.proofs.unchecked.add_bare_rest.Given as goal

abbrev pub invariant-loop-k : goal.invariant-loop-k
invariant-loop-k g l =
    let n = g.S.Size.DIM in
    let list = g.S.Row.Values.list in
    (l.from ≤ l.k)
    × ((s : List Float) → RowsAlike n s (list l.initial.sum) → RowsAlike n (iterate (add_entry binary64 n l.alpha l.row l.first l.values l.x) l.from l.k s) (list l.sum))
