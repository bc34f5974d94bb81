-- `unchecked::add_bare_entries` meets its promise: what was alike before is so after the entries up to k, and after the rest.
-- Assumes nothing.
use Rattle.std.proofs.Common.{ℕ, ◌+◌, List, Float, length, sym, arith, rules}
use Rattle.std.specs.Float.{binary64}
use Rattle.base.proofs.Iterate.{iterate_none, iterate_join}
use Rattle.matrix.specs.Product.{add_entry, add_entries}
use Rattle.matrix.proofs.BareLaws.{alike_by}
use Rattle.matrix.proofs.unchecked.add_bare_entries.Goals as goal

pub loop-k-init : goal.loop-k-init
loop-k-init g c = (search rules, λ s like. alike_by (sym (iterate_none _ 0 0 s (search rules))) like)

pub loop-k-preserved : goal.loop-k-preserved
loop-k-preserved g c =
    let a = c.args in
    let f : ℕ → List Float → List Float = add_entry binary64 g.S.Size.DIM a.alpha a.row.now a.first a.values.now a.x.now in (
      omega arith,
      λ s like. alike_by (iterate_join f 0 c.loop-k.k (c.loop-k.k + 4) s (omega arith) (omega arith)) (c.add_bare_four-sum.ensures _ (c.loop-k.invariant.1 s like)),
    )

pub returns : goal.returns
unfolding add_entries
returns g c =
    let a = c.args in
    let f : ℕ → List Float → List Float = add_entry binary64 g.S.Size.DIM a.alpha a.row.now a.first a.values.now a.x.now in
    λ s like. alike_by (iterate_join f 0 c.loop-k.k (length a.row.now) s (omega arith) c.loop-k.invariant.0) (c.add_bare_rest.ensures _ (c.loop-k.invariant.1 s like))
