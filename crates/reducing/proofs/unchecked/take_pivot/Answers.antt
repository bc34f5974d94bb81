-- `unchecked::take_pivot` meets its promise: after the entries below g the products of those entries are taken.
-- Assumes nothing.
use mathlib.Core.Path.{◌≡◌, refl, sym, ap, ◌∙◌}
use mathlib.Core.List.{List}
use Prim.Native.Nat.{ℕ}
use native.Mathlib.Omega.{arith}
use lib.Ieee.{binary64}
use borrow.Author.Rules.{rules}
use Rattle.base.proofs.Iterate.{iterate_none, iterate_more}
use Rattle.factors.specs.Factor.{FactorValues, take_product}
use Rattle.reducing.specs.Lent.{pattern_of}
use Rattle.reducing.proofs.unchecked.take_pivot.Goals as goal

pub loop-g-init : goal.loop-g-init
loop-g-init g c = (refl, refl, search rules, λ offsets splits on. sym (iterate_none _ _ _ _ (search rules)))

pub take_product-requires : goal.take_product-requires
take_product-requires g c =
    let l = c.loop-g in
    (rw (l.invariant.0, l.invariant.1) c.requires.0, c.requires.1, omega (arith, c.requires.3))

pub loop-g-preserved : goal.loop-g-preserved
loop-g-preserved g c =
    let a = c.args in
    let l = c.loop-g in
    let call = c.take_product in
    let f : List ℕ → List ℕ → ℕ → FactorValues → FactorValues = λ offsets splits. take_product binary64 g.S.Size.DIM (pattern_of offsets a.columns.now splits) a.i a.e in (
      call.auto.diagonal ∙ l.invariant.0,
      call.auto.values ∙ l.invariant.1,
      omega arith,
      λ offsets splits on. call.ensures offsets splits on ∙ ap (f offsets splits l.g) (l.invariant.3 offsets splits on) ∙ sym (iterate_more (f offsets splits) _ l.g _ l.invariant.2),
    )

pub returns : goal.returns
returns g c =
    let e : c.loop-g.g ≡ c.args.end = omega arith in
    rw e at c.loop-g.invariant.3
