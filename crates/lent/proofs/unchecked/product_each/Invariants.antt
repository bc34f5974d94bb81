-- `unchecked::product_each` meets its promise: after k turns the first k are in their places.
-- Assumes nothing.
use Rattle.std.proofs.Common.{◌≡◌, length}
use Rattle.std.specs.Float.{binary64}
use Rattle.base.specs.Iterate.{iterate}
use Rattle.lent.specs.Steps.{product_at}
use Rattle.lent.proofs.unchecked.product_each.Given as goal

abbrev pub invariant-loop-k : goal.invariant-loop-k
invariant-loop-k g l = (length l.out ≡ length l.initial.out) × (l.out ≡ iterate (λ i z. product_at binary64 g.S.Size.DIM l.a i l.b i i z) 0 l.k l.initial.out)
