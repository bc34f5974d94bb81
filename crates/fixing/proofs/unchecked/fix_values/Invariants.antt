-- `unchecked::fix_values` meets its promise: after i turns the entries of the first i rows are as their fixed values say.
-- Assumes nothing.
use mathlib.Core.Path.{◌≡◌}
use lib.ListN.{length}
use lib.Ieee.{binary64}
use Rattle.base.specs.Iterate.{iterate}
use Rattle.fixing.specs.Fixing.{fix_row}
use Rattle.fixing.proofs.unchecked.fix_values.Given as goal

abbrev pub invariant-loop-i : goal.invariant-loop-i
invariant-loop-i g l =
    (length l.values ≡ length l.initial.values) × (l.values ≡ iterate (fix_row binary64 g.S.Size.DIM l.flags l.offsets l.columns) 0 l.i l.initial.values)
