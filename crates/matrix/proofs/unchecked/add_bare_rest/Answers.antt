-- `unchecked::add_bare_rest` meets its promise: a turn adds one entry more.
-- Assumes nothing.
use Rattle.std.proofs.Common.{ℕ, List, Float, sym, arith, rules}
use Rattle.std.specs.Float.{binary64}
use Rattle.base.proofs.Iterate.{iterate_none, iterate_more}
use Rattle.matrix.specs.Product.{add_entry}
use Rattle.matrix.proofs.BareLaws.{alike_by}
use Rattle.matrix.proofs.unchecked.add_bare_rest.Goals as goal

pub loop-k-init : goal.loop-k-init
loop-k-init g c = (search rules, λ s like. alike_by (sym (iterate_none _ _ _ s (search rules))) like)

pub loop-k-preserved : goal.loop-k-preserved
loop-k-preserved g c =
    let a = c.args in
    let f : ℕ → List Float → List Float = add_entry binary64 g.S.Size.DIM a.alpha a.row.now a.first a.values.now a.x.now in (
      omega arith,
      λ s like. alike_by (sym (iterate_more f a.from c.loop-k.k s c.loop-k.invariant.0)) (c.add_bare_entry-sum.ensures _ (c.loop-k.invariant.1 s like)),
    )
