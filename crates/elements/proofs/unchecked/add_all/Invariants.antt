-- `unchecked::add_all` meets its promise: after a turns the pairs of the first a row nodes are added.
-- Assumes nothing.
use mathlib.Core.Path.{◌≡◌}
use lib.Ieee.{binary64}
use lib.ListN.{length}
use Rattle.base.specs.Iterate.{iterate}
use Rattle.elements.specs.Assembly.{Lists, add_row}
use Rattle.elements.specs.Fits.{kept_at}
use Rattle.elements.proofs.unchecked.add_all.Given as goal

abbrev pub invariant-loop-a : goal.invariant-loop-a
invariant-loop-a g l =
    (length l.diagonal ≡ length l.initial.diagonal) × (length l.values ≡ length l.initial.values)
    × (◌≡◌ {A = Lists} (l.diagonal, l.values) (iterate (add_row binary64 g.S.Size.DIM l.rule l.rows l.cols l.element (kept_at l.places)) 0 l.a (l.initial.diagonal, l.initial.values)))
