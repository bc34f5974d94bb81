-- `unchecked::put_all` meets its promise: four values in a turn, then the rest.
-- Assumes nothing.
use mathlib.Core.Path.{refl, sym, ap, ◌∙◌}
use Prim.Native.Nat.{◌+◌}
use native.Mathlib.Omega.{arith}
use lib.ListN.{length}
use Rattle.base.specs.Iterate.{iterate}
use Rattle.base.proofs.Iterate.{iterate_none, iterate_join}
use Rattle.copy_rows.specs.Scatter.{put_marked}
use Rattle.copy_rows.proofs.ScatterLaws.{guided_same}
use borrow.Author.Rules.{rules}
use Rattle.copy_rows.proofs.unchecked.put_all.Goals as goal

pub loop-k-init : goal.loop-k-init
loop-k-init c = (refl, search rules, sym (iterate_none _ 0 0 _ (search rules)))

pub put_four-requires : goal.put_four-requires
put_four-requires c =
    (guided_same c.loop-k.invariant.0 c.requires.0, search rules, c.requires.1)

pub loop-k-preserved : goal.loop-k-preserved
loop-k-preserved c =
    let a = c.args in
    let f = put_marked a.from.now a.first a.values.now a.marks.now in
    let k = c.loop-k.k in (
      search rules,
      omega arith,
      c.put_four.ensures ∙ ap (iterate f k (k + 4)) c.loop-k.invariant.2 ∙ iterate_join f 0 k (k + 4) a.out.now (omega arith) (omega arith),
    )

pub put_rest-requires : goal.put_rest-requires
put_rest-requires c =
    (guided_same c.loop-k.invariant.0 c.requires.0, c.loop-k.invariant.1, c.requires.1)

pub returns : goal.returns
returns c =
    let a = c.args in
    let f = put_marked a.from.now a.first a.values.now a.marks.now in
    let k = c.loop-k.k in
    c.put_rest.ensures ∙ ap (iterate f k (length a.from.now)) c.loop-k.invariant.2 ∙ iterate_join f 0 k (length a.from.now) a.out.now (omega arith) c.loop-k.invariant.1
