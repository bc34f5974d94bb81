-- `unchecked::add_bare_entries` meets its promise: what was alike before is so after the entries up to k, and after the rest.
-- Assumes nothing.
use Rattle.std.proofs.Common.{List, Float, ◌≤◌, ◌-◌, length}
use Rattle.std.specs.Float.{binary64}
use Rattle.base.specs.Iterate.{iterate}
use Rattle.matrix.specs.Alike.{RowsAlike}
use Rattle.matrix.specs.Product.{add_entry}
use Rattle.matrix.proofs.unchecked.add_bare_entries.Given as goal

abbrev pub invariant-loop-k : goal.invariant-loop-k
invariant-loop-k g l =
    let n = g.S.Size.DIM in
    let list = g.S.Row.Values.list in
    (l.k ≤ length l.row)
    × ((s : List Float) → RowsAlike n s (list l.initial.sum) → RowsAlike n (iterate (add_entry binary64 n l.alpha l.row l.first l.values l.x) 0 l.k s) (list l.sum))

abbrev pub decreases-loop-k : goal.decreases-loop-k
decreases-loop-k g l = length l.row - l.k
