-- `unchecked::find_places` meets its promise: the pairs of the row nodes passed are stored, and their entries are kept.
-- Assumes nothing.
use mathlib.Core.Path.{◌≡◌}
use mathlib.Core.Bool.{true}
use Prim.Native.Nat.{◌*◌}
use Rattle.base.specs.All.{all_to}
use Rattle.elements.specs.Pairs.{is_row_stored}
use Rattle.elements.specs.Fits.{Placed}
use Rattle.elements.proofs.unchecked.find_places.Given as goal

abbrev pub invariant-loop-a : goal.invariant-loop-a
invariant-loop-a l =
    (all_to (is_row_stored l.rule l.rows l.cols l.offsets l.columns) l.a ≡ true) × (Placed l.rule l.rows l.cols l.offsets l.columns (8 * l.a) l.places)
