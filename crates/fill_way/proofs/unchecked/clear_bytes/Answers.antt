-- `unchecked::clear_bytes` meets its promise: after i turns the first i bytes are 0.
-- Assumes nothing.
use mathlib.Core.Path.{refl, ◌∙◌}
use Prim.Native.Nat.{◌<◌}
use native.Mathlib.Omega.{arith}
use lib.ListN.{length}
use Rattle.fill.proofs.Lists.{zeros_more, zeros_end}
use borrow.Author.Rules.{rules}
use Rattle.fill_way.proofs.unchecked.clear_bytes.Goals as goal

pub loop-i-init : goal.loop-i-init
loop-i-init c = (refl, search rules, refl)

pub loop-i-preserved : goal.loop-i-preserved
loop-i-preserved c = let s₀ = c.args.s.now in
    let h : c.loop-i.i < length s₀ = omega arith in
    (search rules, omega arith, rw c.loop-i.invariant.2 (zeros_more (length s₀) c.loop-i.i s₀ h refl))

pub returns : goal.returns
returns c = c.loop-i.invariant.2 ∙ zeros_end c.loop-i.i c.args.s.now (omega arith)
