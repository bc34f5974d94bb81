-- `unchecked::each_part` meets its promise: after k turns the first k parts are in their places.
-- Assumes nothing.
use Rattle.std.proofs.Common.{◌≡◌, List, Float, length}
use Rattle.base.specs.Iterate.{iterate}
use Rattle.lent.specs.Steps.{part_at}
use Rattle.lent.proofs.unchecked.each_part.Given as goal

abbrev pub invariant-loop-k : goal.invariant-loop-k
invariant-loop-k g l =
    (length l.out ≡ length l.initial.out)
    × ((f : List Float → List Float → List Float)
    → ((x y z : _) → goal.F-post g l.op x y z → g.V.Values.list z ≡ f (g.V.Values.list x) (g.V.Values.list y))
    → l.out ≡ iterate (part_at f g.V.Values.count l.u l.v) 0 l.k l.initial.out)
