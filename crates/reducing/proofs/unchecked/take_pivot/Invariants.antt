-- `unchecked::take_pivot` meets its promise: after the entries below g the products of those entries are taken.
-- Assumes nothing.
use mathlib.Core.Path.{◌≡◌}
use mathlib.Core.List.{List}
use Prim.Native.Nat.{ℕ, ◌≤◌}
use lib.ListN.{length}
use lib.Ieee.{binary64}
use Rattle.base.specs.Iterate.{iterate}
use Rattle.factors.specs.Factor.{take_product}
use Rattle.reducing.specs.Lent.{pattern_of, factor_of}
use Rattle.reducing.specs.Fits.{HandedOn}
use Rattle.reducing.proofs.unchecked.take_pivot.Given as goal

abbrev pub invariant-loop-g : goal.invariant-loop-g
invariant-loop-g g l =
    (length l.diagonal ≡ length l.initial.diagonal) × (length l.values ≡ length l.initial.values) × (l.first ≤ l.g)
    × ((offsets splits : List ℕ) → HandedOn offsets l.columns l.i l.row l.from
    → factor_of l.diagonal l.values ≡ iterate (take_product binary64 g.S.Size.DIM (pattern_of offsets l.columns splits) l.i l.e) l.first l.g (factor_of l.initial.diagonal l.initial.values))
