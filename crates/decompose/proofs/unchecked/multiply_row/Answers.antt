-- `unchecked::multiply_row` meets its promise: after the entries below g those entries are multiplied.
-- Assumes nothing.
use mathlib.Core.Path.{◌≡◌, refl, sym, ap, ◌∙◌}
use Prim.Native.Nat.{ℕ, ◌*◌}
use lib.ListN.{length}
use Rattle.base.proofs.Sizes.{part_fits}
use native.Mathlib.Omega.{arith}
use lib.Ieee.{binary64}
use borrow.Author.Rules.{rules}
use Rattle.base.proofs.Iterate.{iterate_none, iterate_more}
use Rattle.factors.specs.Factor.{FactorValues, multiply_entry}
use Rattle.decompose.proofs.Joined.{joined_multiply}
use Rattle.decompose.proofs.unchecked.multiply_row.Goals as goal

pub loop-g-init : goal.loop-g-init
loop-g-init g c = (refl, search rules, sym (iterate_none _ _ _ _ (search rules)))

pub block_at-requires : goal.block_at-requires
block_at-requires g c =
    let n = g.S.Size.DIM in
    part_fits (n * n) c.loop-g.g c.args.end (length c.loop-g.values) (search rules) (omega (arith, c.loop-g.invariant.0, c.requires.2))

pub put_block-requires : goal.put_block-requires
put_block-requires g c =
    let n = g.S.Size.DIM in
    part_fits (n * n) c.loop-g.g c.args.end (length c.loop-g.values) (search rules) (omega (arith, c.loop-g.invariant.0, c.requires.2))

pub loop-g-preserved : goal.loop-g-preserved
loop-g-preserved g c =
    let a = c.args in
    let l = c.loop-g in
    let f : ℕ → FactorValues → FactorValues = multiply_entry binary64 g.S.Size.DIM a.i in (
      c.put_block.auto.values ∙ l.invariant.0,
      omega arith,
      joined_multiply binary64 g.S.Size.DIM a.diagonal.now l.values a.i l.g _ _ _ _ c.block_at-pivot.ensures c.block_at.ensures c.product-all.ensures c.put_block.ensures
          ∙ ap (f l.g) l.invariant.2 ∙ sym (iterate_more f _ l.g _ l.invariant.1),
    )

pub returns : goal.returns
returns g c =
    let e : c.loop-g.g ≡ c.args.end = omega arith in
    rw e at c.loop-g.invariant.2
