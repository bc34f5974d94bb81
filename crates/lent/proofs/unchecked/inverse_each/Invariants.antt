-- `unchecked::inverse_each` meets its promise: after k turns the first k are in their places.
-- Assumes nothing.
use Rattle.std.proofs.Common.{◌≡◌, length}
use Rattle.std.specs.Float.{binary64}
use Rattle.base.specs.Iterate.{iterate}
use Rattle.lent.specs.Steps.{inverse_at, InvertingLast}
use Rattle.lent.proofs.unchecked.inverse_each.Given as goal

abbrev pub invariant-loop-k : goal.invariant-loop-k
invariant-loop-k g l = (length l.out ≡ length l.initial.out) × (InvertingLast binary64 g.S.Size.DIM l.a l.k l.last) × (l.out ≡ iterate (λ i z. inverse_at binary64 g.S.Size.DIM l.a i i z) 0 l.k l.initial.out)
