-- `unchecked::less_part` meets its promise: after k turns the first k entries of the part are taken away.
-- Assumes nothing.
use mathlib.Core.Path.{◌≡◌}
use lib.Ieee.{binary64}
use Rattle.base.specs.Iterate.{iterate}
use Rattle.solving.specs.Steps.{less_at}
use Rattle.solving.proofs.unchecked.less_part.Given as goal

abbrev pub invariant-loop-k : goal.invariant-loop-k
invariant-loop-k g l =
    (g.S.Row.Values.list l.left ≡ iterate (less_at binary64 g.S.Size.DIM l.part l.first l.values l.x) 0 l.k (g.S.Row.Values.list l.initial.left))
