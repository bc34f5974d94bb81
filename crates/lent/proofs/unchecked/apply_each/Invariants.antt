-- `unchecked::apply_each` meets its promise: after k turns the first k are in their places.
-- Assumes nothing.
use Rattle.std.proofs.Common.{◌≡◌, length}
use Rattle.std.specs.Float.{binary64}
use Rattle.base.specs.Iterate.{iterate}
use Rattle.lent.specs.Steps.{apply_at}
use Rattle.lent.proofs.unchecked.apply_each.Given as goal

abbrev pub invariant-loop-k : goal.invariant-loop-k
invariant-loop-k g l = (length l.out ≡ length l.initial.out) × (l.out ≡ iterate (λ i z. apply_at binary64 g.S.Size.DIM l.a i l.x i i z) 0 l.k l.initial.out)
