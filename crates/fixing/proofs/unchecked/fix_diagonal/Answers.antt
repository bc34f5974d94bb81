-- `unchecked::fix_diagonal` meets its promise: after i turns the first i blocks are as their fixed values say.
-- Assumes nothing.
use mathlib.Core.Path.{◌≡◌, refl, sym, ap, ◌∙◌}
use mathlib.Core.List.{List}
use Prim.Native.Nat.{ℕ, ◌*◌}
use native.Mathlib.Omega.{arith}
use lib.ListN.{length}
use lib.Ieee.{Float, binary64}
use borrow.Author.Rules.{rules}
use Rattle.base.proofs.Iterate.{iterate_none, iterate_more}
use Rattle.base.proofs.Sizes.{part_fits}
use Rattle.fixing.specs.Fixing.{is_fixed, fix_diagonal_at, fix_diagonal}
use Rattle.fixing.proofs.unchecked.fix_diagonal.Goals as goal

pub loop-i-init : goal.loop-i-init
loop-i-init g c = (refl, sym (iterate_none _ 0 0 _ (search rules)))

pub fix_diagonal_at-requires : goal.fix_diagonal_at-requires
fix_diagonal_at-requires g c =
    let a = c.args in (
      part_fits (g.S.Size.DIM * g.S.Size.DIM) c.loop-i.i a.rows (length c.loop-i.diagonal) (search rules) (omega (arith, c.loop-i.invariant.0, c.requires.0)),
      part_fits g.S.Size.DIM c.loop-i.i a.rows (length a.flags.now) (search rules) (omega (arith, c.requires.1)),
    )

pub loop-i-preserved : goal.loop-i-preserved
loop-i-preserved g c =
    let a = c.args in
    let f : ℕ → List Float → List Float = λ j. fix_diagonal_at binary64 g.S.Size.DIM a.val_dia (is_fixed g.S.Size.DIM a.flags.now j) j in (
      c.fix_diagonal_at.auto.diagonal ∙ c.loop-i.invariant.0,
      c.fix_diagonal_at.ensures ∙ ap (f c.loop-i.i) c.loop-i.invariant.1 ∙ sym (iterate_more f 0 c.loop-i.i _ (search rules)),
    )

pub returns : goal.returns
unfolding fix_diagonal
returns g c =
    let e : c.loop-i.i ≡ c.args.rows = omega arith in
    rw e at c.loop-i.invariant.1
