-- `unchecked::mark_row` meets its promise: after k turns the first k columns are marked.
-- Assumes nothing.
use mathlib.Core.Path.{◌∙◌}
use native.Mathlib.Omega.{arith}
use lib.ListN.{length-set}
use Rattle.places.proofs.PlaceLaws.{small, marked_more}
use borrow.Author.Rules.{rules}
use Rattle.places.proofs.unchecked.mark_row.Goals as goal

pub loop-k-preserved : goal.loop-k-preserved
loop-k-preserved c =
    let next_small = small c.args.row.now c.requires.1.below c.loop-k.k (search rules) in (
      length-set c.loop-k.marks _ _ ∙ c.loop-k.invariant.0,
      marked_more c.args.row.now c.loop-k.marks c.loop-k.k c.requires.1.single (search rules) (omega (arith, next_small, c.loop-k.invariant.0)) c.loop-k.invariant.1,
    )
