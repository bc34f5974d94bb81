-- `unchecked::take_lower` meets its promise: after the entries below e their pivots are taken.
-- Assumes nothing.
use mathlib.Core.Path.{◌≡◌}
use Prim.Native.Nat.{◌≤◌}
use lib.ListN.{length}
use lib.Ieee.{binary64}
use Rattle.base.specs.Iterate.{iterate}
use Rattle.factors.specs.Factor.{take_pivot}
use Rattle.reducing.specs.Lent.{pattern_of, factor_of}
use Rattle.reducing.proofs.unchecked.take_lower.Given as goal

abbrev pub invariant-loop-e : goal.invariant-loop-e
invariant-loop-e g l =
    (length l.diagonal ≡ length l.initial.diagonal) × (length l.values ≡ length l.initial.values) × (l.from ≤ l.e)
    × (factor_of l.diagonal l.values ≡ iterate (take_pivot binary64 g.S.Size.DIM (pattern_of l.offsets l.columns l.splits) l.i) l.from l.e (factor_of l.initial.diagonal l.initial.values))
