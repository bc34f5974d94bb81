-- `unchecked::clear_unless` meets its promise: after q turns the first q values are +0.
-- Assumes nothing.
use mathlib.Core.Path.{refl}
use native.Mathlib.Omega.{arith}
use lib.Ieee.{binary64}
use Rattle.copy_rows.proofs.ScatterLaws.{zeros_more}
use borrow.Author.Rules.{rules}
use Rattle.copy_rows.proofs.unchecked.clear_unless.Goals as goal

pub returns-then-out-count : goal.returns-then-out-count
returns-then-out-count c = (refl, λ other. absurd (other c.if-out-count.true))

pub loop-x-init : goal.loop-x-init
loop-x-init c = (refl, λ j h. absurd (omega (arith, h)))

pub loop-x-preserved : goal.loop-x-preserved
loop-x-preserved c = (
  search rules,
  zeros_more binary64 c.loop-x.out c.loop-x.x-index (search rules) c.loop-x.invariant.1,
)

pub returns : goal.returns
returns c =
    (c.loop-x.invariant.0, λ _ j h. c.loop-x.invariant.1 j (omega (arith, h, c.loop-x-test.false)))
