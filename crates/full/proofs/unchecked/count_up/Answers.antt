-- `unchecked::count_up` meets its promise: after k turns the first k words are their place above the first.
-- Assumes nothing.
use mathlib.Core.Path.{◌∙◌}
use Prim.Native.Nat.{ℕ, ◌+◌, ◌<◌}
use native.Mathlib.Omega.{arith}
use lib.ListN.{length}
use Rattle.base.proofs.Each.{each_more, each_all}
use Rattle.full.proofs.RowLaws.{counted}
use Rattle.full.proofs.unchecked.count_up.Goals as goal

pub loop-k-preserved : goal.loop-k-preserved
loop-k-preserved c =
    let a = c.args in
    let f : ℕ → ℕ → ℕ = λ p _. a.first + p in
    let h : c.loop-k.k < length a.part.now = omega arith in
    rw c.loop-k.invariant (each_more f c.loop-k.k a.part.now 0 h)

pub returns : goal.returns
returns c =
    c.loop-k.invariant ∙ each_all _ c.loop-k.k c.args.part.now (omega arith) ∙ counted c.args.first c.args.part.now
