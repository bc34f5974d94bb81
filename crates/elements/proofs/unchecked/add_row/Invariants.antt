-- `unchecked::add_row` meets its promise: after b turns the pairs of the first b column nodes are added.
-- Assumes nothing.
use mathlib.Core.Path.{◌≡◌}
use lib.Ieee.{binary64}
use lib.ListN.{length}
use Rattle.base.specs.Iterate.{iterate}
use Rattle.elements.specs.Assembly.{Lists, add_pair}
use Rattle.elements.specs.Fits.{kept_at}
use Rattle.elements.proofs.unchecked.add_row.Given as goal

abbrev pub invariant-loop-b : goal.invariant-loop-b
invariant-loop-b g l =
    (length l.diagonal ≡ length l.initial.diagonal) × (length l.values ≡ length l.initial.values)
    × (◌≡◌ {A = Lists} (l.diagonal, l.values) (iterate (add_pair binary64 g.S.Size.DIM l.rule l.rows l.cols l.element (kept_at l.places) l.a) 0 l.b (l.initial.diagonal, l.initial.values)))
