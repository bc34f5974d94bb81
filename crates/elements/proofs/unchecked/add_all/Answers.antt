-- `unchecked::add_all` meets its promise: after a turns the pairs of the first a row nodes are added.
-- Assumes nothing.
use mathlib.Core.Path.{◌≡◌, refl, sym, ap, ◌∙◌}
use Prim.Native.Nat.{ℕ}
use native.Mathlib.Omega.{arith}
use lib.Ieee.{binary64}
use lib.ListN.{length}
use borrow.Author.Rules.{rules}
use Rattle.base.proofs.Iterate.{iterate_none, iterate_more}
use Rattle.elements.specs.Assembly.{Lists, add_row, add_all}
use Rattle.elements.specs.Fits.{kept_at}
use Rattle.elements.proofs.FitLaws.{same_lengths}
use Rattle.elements.proofs.unchecked.add_all.Goals as goal

pub loop-a-init : goal.loop-a-init
loop-a-init g c = (refl, refl, sym (iterate_none _ 0 0 _ (search rules)))

pub add_row-requires : goal.add_row-requires
add_row-requires g c =
    (same_lengths c.requires _ _ c.loop-a.invariant.0 c.loop-a.invariant.1, search rules)

pub loop-a-preserved : goal.loop-a-preserved
loop-a-preserved g c =
    let a = c.args in
    let f : ℕ → Lists → Lists = add_row binary64 g.S.Size.DIM a.rule a.rows.now a.cols.now a.element.now (kept_at a.places.now) in (
      search rules,
      search rules,
      c.add_row.ensures ∙ ap (f c.loop-a.a) c.loop-a.invariant.2 ∙ sym (iterate_more f 0 c.loop-a.a _ (search rules)),
    )

pub returns : goal.returns
unfolding add_all
returns g c =
    let e : c.loop-a.a ≡ length c.args.rows.now = omega arith in
    rw e at c.loop-a.invariant.2
