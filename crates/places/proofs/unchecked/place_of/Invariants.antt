-- `unchecked::place_of` meets its promise: the column's place is reached from the guess, until it is the guess.
-- Assumes nothing.
use Prim.Native.Nat.{◌-◌}
use lib.ListN.{length}
use Rattle.places.proofs.PlaceLaws.{Ahead}
use Rattle.places.proofs.unchecked.place_of.Given as goal

abbrev pub invariant-loop-guess : goal.invariant-loop-guess
invariant-loop-guess l = Ahead l.row l.column l.guess

abbrev pub decreases-loop-guess : goal.decreases-loop-guess
decreases-loop-guess l = length l.row - l.guess
