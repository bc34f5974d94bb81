-- `unchecked::find_row` meets its promise: the pairs passed are stored, and their entries are kept.
-- Assumes nothing.
use mathlib.Core.Path.{◌≡◌}
use mathlib.Core.Bool.{true}
use Prim.Native.Nat.{◌+◌, ◌*◌}
use Rattle.base.specs.All.{all_to}
use Rattle.elements.specs.Pairs.{is_stored}
use Rattle.elements.specs.Fits.{Placed}
use Rattle.elements.proofs.unchecked.find_row.Given as goal

abbrev pub invariant-loop-b : goal.invariant-loop-b
invariant-loop-b l =
    (all_to (is_stored l.rule l.rows l.cols l.offsets l.columns l.a) l.b ≡ true) × (Placed l.rule l.rows l.cols l.offsets l.columns (8 * l.a + l.b) l.places)
