-- `unchecked::multiply_row` meets its promise: after the entries below g those entries are multiplied.
-- Assumes nothing.
use mathlib.Core.Path.{◌≡◌}
use Prim.Native.Nat.{◌≤◌}
use lib.ListN.{length}
use lib.Ieee.{binary64}
use Rattle.base.specs.Iterate.{iterate}
use Rattle.factors.specs.Factor.{multiply_entry}
use Rattle.reducing.specs.Lent.{factor_of}
use Rattle.decompose.proofs.unchecked.multiply_row.Given as goal

abbrev pub invariant-loop-g : goal.invariant-loop-g
invariant-loop-g g l =
    (length l.values ≡ length l.initial.values) × (l.first ≤ l.g)
    × (factor_of l.diagonal l.values ≡ iterate (multiply_entry binary64 g.S.Size.DIM l.i) l.first l.g (factor_of l.diagonal l.initial.values))
