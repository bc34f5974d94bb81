-- `unchecked::invert_pivot` meets its promise: the inverse is put in the pivot's place, and a pivot without one stays as it is.
-- Assumes nothing.
use Rattle.std.proofs.Common.{rules}
use Rattle.std.specs.Float.{binary64}
use Rattle.decompose.proofs.TurnLaws.{pivot_kept}
use Rattle.decompose.proofs.unchecked.invert_pivot.Goals as goal

pub returns-in_err-inverse : goal.returns-in_err-inverse
returns-in_err-inverse g c =
    let a = c.args in
    pivot_kept binary64 g.S.Size.DIM g.S.Block.Values.list a.diagonal.now a.i _ _ _ _ c.requires c.block_at.ensures c.inverse.ensures c.in_err-inverse.was (search rules)
