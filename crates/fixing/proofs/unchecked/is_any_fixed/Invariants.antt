-- `unchecked::is_any_fixed` meets its promise: after so many turns as many flags are tested.
-- Assumes nothing.
use Rattle.std.proofs.Common.{◌≡◌}
use Rattle.fixing.specs.Fixing.{is_fixed}
use Rattle.fixing.specs.Steps.{any_to}
use Rattle.fixing.proofs.unchecked.is_any_fixed.Given as goal

abbrev pub invariant-loop-r : goal.invariant-loop-r
invariant-loop-r g l = l.any ≡ any_to l.r (is_fixed g.S.Size.DIM l.flags l.i)
