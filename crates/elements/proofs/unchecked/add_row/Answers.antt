-- `unchecked::add_row` meets its promise: after b turns the pairs of the first b column nodes are added.
-- Assumes nothing.
use mathlib.Core.Path.{◌≡◌, refl, sym, ap, ◌∙◌}
use Prim.Native.Nat.{ℕ}
use native.Mathlib.Omega.{arith}
use lib.Ieee.{binary64}
use lib.ListN.{length}
use borrow.Author.Rules.{rules}
use Rattle.base.proofs.Iterate.{iterate_none, iterate_more}
use Rattle.elements.specs.Assembly.{Lists, add_pair, add_row}
use Rattle.elements.specs.Fits.{kept_at}
use Rattle.elements.proofs.FitLaws.{same_lengths}
use Rattle.elements.proofs.unchecked.add_row.Goals as goal

pub loop-b-init : goal.loop-b-init
loop-b-init g c = (refl, refl, sym (iterate_none _ 0 0 _ (search rules)))

pub add_pair-requires : goal.add_pair-requires
add_pair-requires g c =
    (same_lengths c.requires.0 _ _ c.loop-b.invariant.0 c.loop-b.invariant.1, c.requires.1, search rules)

pub loop-b-preserved : goal.loop-b-preserved
loop-b-preserved g c =
    let a = c.args in
    let f : ℕ → Lists → Lists = add_pair binary64 g.S.Size.DIM a.rule a.rows.now a.cols.now a.element.now (kept_at a.places.now) a.a in (
      search rules,
      search rules,
      c.add_pair.ensures ∙ ap (f c.loop-b.b) c.loop-b.invariant.2 ∙ sym (iterate_more f 0 c.loop-b.b _ (search rules)),
    )

pub returns : goal.returns
unfolding add_row
returns g c =
    let e : c.loop-b.b ≡ length c.args.cols.now = omega arith in
    rw e at c.loop-b.invariant.2
