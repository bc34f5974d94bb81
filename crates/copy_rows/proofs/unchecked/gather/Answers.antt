-- `unchecked::gather` meets its promise: after each turn one more block is put.
-- Assumes nothing.
use mathlib.Core.Path.{◌≡◌, refl, sym, ap, ◌∙◌}
use Prim.Native.Nat.{◌*◌}
use native.Mathlib.Omega.{arith}
use lib.ListN.{length}
use lib.Ieee.{binary64}
use Rattle.base.proofs.Iterate.{iterate_none, iterate_more}
use Rattle.base.proofs.Sizes.{part_fits}
use Rattle.copy_rows.specs.Steps.{put_copied}
use Rattle.places.proofs.PlaceLaws.{small}
use Rattle.copy_rows.proofs.RowLaws.{found_fits, turn, row_done}
use borrow.Author.Rules.{rules}
use Rattle.copy_rows.proofs.unchecked.gather.Goals as goal

pub loop-p-init : goal.loop-p-init
loop-p-init g c = (refl, sym (iterate_none (put_copied binary64 g.S.Size.DIM _ _ _ _) _ _ _ (search rules)))

pub place_of-place-requires : goal.place_of-place-requires
place_of-place-requires g c =
    (c.requires.0.marks, c.requires.1, small c.args.row.now c.requires.0.low c.loop-p.p (search rules))

pub put_or_zero-requires : goal.put_or_zero-requires
put_or_zero-requires g c =
    let n = g.S.Size.DIM in (
      part_fits (n * n) c.loop-p.p (length c.args.row.now) (length c.loop-p.out) (search rules) (omega (arith, c.loop-p.invariant.0, c.requires.0.room)),
      λ some. found_fits (n * n) c.args.from.now _ c.place_of-place.result c.args.first (length c.args.values.now) c.requires.0.stored c.place_of-place.ensures some,
    )

pub loop-p-preserved : goal.loop-p-preserved
loop-p-preserved g c =
    let a = c.args in
    let f = put_copied binary64 g.S.Size.DIM a.from.now a.first a.values.now a.row.now in (
      search rules,
      turn binary64 g.S.Size.DIM a.from.now a.first a.values.now a.row.now c.loop-p.p c.loop-p.out _ _ _ c.place_of-place.ensures refl c.put_or_zero.ensures
          ∙ ap (f c.loop-p.p) c.loop-p.invariant.1 ∙ sym (iterate_more f 0 c.loop-p.p a.out.now (search rules)),
    )

pub returns : goal.returns
returns g c =
    let a = c.args in
    let e : c.loop-p.p ≡ length a.row.now = omega arith in
    (rw e at c.loop-p.invariant.1) ∙ row_done binary64 g.S.Size.DIM a.row.now a.from.now a.first a.values.now a.out.now c.requires.0
