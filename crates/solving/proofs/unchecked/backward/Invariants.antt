-- `unchecked::backward` meets its promise: with `left` rows left the others are done, and the last of them is at hand.
-- Assumes nothing.
use mathlib.Core.Path.{◌≡◌}
use Prim.Native.Nat.{◌-◌, ◌≤◌}
use lib.ListN.{length}
use lib.Ieee.{binary64}
use Rattle.base.specs.Iterate.{iterate}
use Rattle.patterns.specs.Pattern.{rows_of}
use Rattle.factors.specs.Solve.{backward_row}
use Rattle.solving.specs.Fits.{Known}
use Rattle.solving.proofs.unchecked.backward.Given as goal

abbrev pub invariant-loop-left : goal.invariant-loop-left
invariant-loop-left g l =
    (length l.vec ≡ length l.initial.vec) × (l.left ≤ rows_of l.offsets) × (Known g.S.Size.DIM l.left (g.S.Row.Values.list l.known) l.vec)
    × (l.vec ≡ iterate (λ k. backward_row binary64 g.S.Size.DIM (record { offsets = l.offsets; columns = l.columns; splits = l.splits }) (record { diagonal = l.diagonal; values = l.values }) (rows_of l.offsets - 1 - k)) 0 (rows_of l.offsets - l.left) l.initial.vec)

abbrev pub decreases-loop-left : goal.decreases-loop-left
decreases-loop-left g l = l.left
