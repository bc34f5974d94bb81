-- `unchecked::count_up` meets its promise: after k turns the first k words are their place above the first.
-- Assumes nothing.
use mathlib.Core.Path.{◌≡◌}
use Prim.Native.Nat.{◌+◌}
use Rattle.base.specs.Each.{each_to}
use Rattle.full.proofs.unchecked.count_up.Given as goal

abbrev pub invariant-loop-k : goal.invariant-loop-k
invariant-loop-k l = l.part ≡ each_to (λ p _. l.first + p) l.k l.initial.part
