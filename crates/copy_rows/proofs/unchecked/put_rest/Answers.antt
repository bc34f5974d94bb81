-- `unchecked::put_rest` meets its promise: after k turns the values up to place k are put.
-- Assumes nothing.
use mathlib.Core.Path.{◌≡◌, refl, sym, ◌∙◌}
use Prim.Native.Nat.{◌<◌}
use native.Mathlib.Omega.{arith}
use lib.ListN.{length, length-set}
use Rattle.base.proofs.Iterate.{iterate_none}
use Rattle.copy_rows.proofs.ScatterLaws.{put_more}
use borrow.Author.Rules.{rules}
use Rattle.copy_rows.proofs.unchecked.put_rest.Goals as goal

pub loop-k-init : goal.loop-k-init
loop-k-init c = (refl, search rules, search rules, sym (iterate_none _ _ _ _ (search rules)))

pub place_at-place-requires : goal.place_at-place-requires
place_at-place-requires c =
    let guide = c.requires.0 in
    (guide.long, guide.low c.loop-k.k (search rules))

pub offset_bounds-out-place : goal.offset_bounds-out-place
offset_bounds-out-place c =
    -- the place is one of the row's values
    let inside : c.place_at-place.result < length c.loop-k.out = omega (arith, c.place_at-place.ensures, c.requires.0.within c.loop-k.k (search rules), c.loop-k.invariant.0) in
    omega (arith, inside)

pub bounds-out-place : goal.bounds-out-place
bounds-out-place c =
    -- the place is one of the row's values
    let inside : c.place_at-place.result < length c.loop-k.out = omega (arith, c.place_at-place.ensures, c.requires.0.within c.loop-k.k (search rules), c.loop-k.invariant.0) in
    omega (arith, inside)

pub loop-k-preserved : goal.loop-k-preserved
loop-k-preserved c =
    let a = c.args in (
      length-set c.loop-k.out _ _ ∙ c.loop-k.invariant.0,
      omega arith,
      omega arith,
      put_more a.from.now a.first a.values.now a.marks.now a.start c.loop-k.k _ a.out.now c.loop-k.out c.loop-k.invariant.1 c.place_at-place.ensures c.loop-k.invariant.3,
    )

pub returns : goal.returns
returns c =
    let e : c.loop-k.k ≡ length c.args.from.now = omega arith in
    rw e at c.loop-k.invariant.3
