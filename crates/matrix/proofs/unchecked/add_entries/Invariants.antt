-- `unchecked::add_entries` meets its promise: after k turns the first k entries are added.
-- Assumes nothing.
use Rattle.std.proofs.Common.{◌≡◌}
use Rattle.std.specs.Float.{binary64}
use Rattle.base.specs.Iterate.{iterate}
use Rattle.matrix.specs.Product.{add_entry}
use Rattle.matrix.proofs.unchecked.add_entries.Given as goal

abbrev pub invariant-loop-k : goal.invariant-loop-k
invariant-loop-k g l =
    g.S.Row.Values.list l.sum ≡ iterate (add_entry binary64 g.S.Size.DIM l.alpha l.row l.first l.values l.x) 0 l.k (g.S.Row.Values.list l.initial.sum)
