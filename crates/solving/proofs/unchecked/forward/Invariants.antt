-- `unchecked::forward` meets its promise: after i turns the first i rows are done, and the last of them is at hand.
-- Assumes nothing.
use mathlib.Core.Path.{◌≡◌}
use lib.ListN.{length}
use lib.Ieee.{binary64}
use Rattle.base.specs.Iterate.{iterate}
use Rattle.factors.specs.Solve.{forward_row}
use Rattle.solving.specs.Fits.{Known}
use Rattle.solving.proofs.unchecked.forward.Given as goal

abbrev pub invariant-loop-i : goal.invariant-loop-i
invariant-loop-i g l =
    (length l.vec ≡ length l.initial.vec) × (Known g.S.Size.DIM l.at (g.S.Row.Values.list l.known) l.vec)
    × (l.vec ≡ iterate (forward_row binary64 g.S.Size.DIM (record { offsets = l.offsets; columns = l.columns; splits = l.splits }) (record { diagonal = l.diagonal; values = l.values })) 0 l.i l.initial.vec)
