-- `unchecked::put_or_zero` meets its promise: no place gives +0, a place its block.
-- Assumes nothing.
use mathlib.Core.Path.{◌≡◌, ap, ◌∙◌}
use mathlib.Core.List.{List}
use Prim.Native.Nat.{◌*◌}
use lib.Ieee.{Float, binary64}
use borrow.Author.Tests.{eq-eqb, ne_eqb}
use Rattle.blocks.specs.Lent.{put_at}
use Rattle.factors.specs.Copy.{block_or_zero}
use Rattle.copy_rows.proofs.unchecked.put_or_zero.Goals as goal

pub returns-then-place-eq-NO_PLACE : goal.returns-then-place-eq-NO_PLACE
unfolding block_or_zero
returns-then-place-eq-NO_PLACE g c =
    let n = g.S.Size.DIM in
    let block : (let a = c.args in g.S.Block.Values.list c.zero.result ≡ block_or_zero binary64 g.S.Size.DIM a.values.now a.first a.place) =
    rw (eq-eqb _ _ c.if-place-eq-NO_PLACE.true) (rw g.met.S.Size.sizes.block_long at c.zero.ensures) in
    c.put_block.ensures ∙ ap (λ (b : List Float). put_at (n * n * c.args.p) b c.args.out.now) block

pub returns-else-place-eq-NO_PLACE : goal.returns-else-place-eq-NO_PLACE
unfolding block_or_zero
returns-else-place-eq-NO_PLACE g c =
    let n = g.S.Size.DIM in
    let block : (let a = c.args in g.S.Block.Values.list c.block_at.result ≡ block_or_zero binary64 g.S.Size.DIM a.values.now a.first a.place) =
    rw (ne_eqb _ _ c.if-place-eq-NO_PLACE.false, ← c.wide.ensures) c.block_at.ensures in
    c.put_block-else-place-eq-NO_PLACE.ensures ∙ ap (λ (b : List Float). put_at (n * n * c.args.p) b c.args.out.now) block
