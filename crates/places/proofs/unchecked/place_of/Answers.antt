-- `unchecked::place_of` meets its promise: the column's place is reached from the guess, until it is the guess.
-- Assumes nothing.
use mathlib.Core.Path.{refl}
use Rattle.places.proofs.PlaceLaws.{ahead_first, ahead_next}
use Rattle.places.proofs.unchecked.place_of.Goals as goal

pub loop-guess-init : goal.loop-guess-init
loop-guess-init c = ahead_first c.args.row.now c.args.marks.now c.args.column _ c.requires.1 refl

pub loop-guess-preserved : goal.loop-guess-preserved
loop-guess-preserved c =
    ahead_next c.args.row.now c.args.column c.loop-guess.guess c.if-row-guess.false c.loop-guess.invariant
