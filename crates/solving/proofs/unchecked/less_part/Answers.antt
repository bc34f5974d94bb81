-- `unchecked::less_part` meets its promise: after k turns the first k entries of the part are taken away.
-- Assumes nothing.
use mathlib.Core.Path.{◌≡◌, sym, ap, ◌∙◌}
use mathlib.Core.List.{List}
use Prim.Native.Nat.{ℕ, ◌+◌, ◌*◌}
use native.Mathlib.Omega.{arith}
use lib.ListN.{length}
use lib.Ieee.{Float, binary64}
use borrow.Author.Rules.{rules}
use Rattle.base.proofs.Iterate.{iterate_none, iterate_more}
use Rattle.base.proofs.Sizes.{part_fits, few_parts, square_pos}
use Rattle.solving.specs.Steps.{less_at, less_part}
use Rattle.solving.proofs.unchecked.less_part.Goals as goal

pub loop-k-init : goal.loop-k-init
loop-k-init g c = sym (iterate_none _ 0 0 _ (search rules))

pub overflow_add-first : goal.overflow_add-first
overflow_add-first g c =
    let a = c.args in
    let n = g.S.Size.DIM in
    omega (arith, few_parts (n * n) (a.first + length a.part.now) (length a.values.now) (square_pos n g.met.S.Size.sizes.least) c.requires.stored)

pub less_product-left-requires : goal.less_product-left-requires
less_product-left-requires g c =
    let a = c.args in (
      part_fits (g.S.Size.DIM * g.S.Size.DIM) (a.first + c.loop-k.k) (a.first + length a.part.now) (length a.values.now) (omega arith) c.requires.stored,
      c.requires.seen c.loop-k.k (search rules),
    )

pub loop-k-preserved : goal.loop-k-preserved
unfolding less_at
loop-k-preserved g c =
    let a = c.args in
    let f : ℕ → List Float → List Float = less_at binary64 g.S.Size.DIM a.part.now a.first a.values.now a.x.now in
    c.less_product-left.ensures ∙ ap (f c.loop-k.k) c.loop-k.invariant ∙ sym (iterate_more f 0 c.loop-k.k _ (search rules))

pub returns : goal.returns
unfolding less_part
returns g c =
    let e : c.loop-k.k ≡ length c.args.part.now = omega arith in
    rw e at c.loop-k.invariant
