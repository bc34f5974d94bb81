-- `unchecked::row_beside` meets its promise: the row at hand is the row that would be read, or it is read.
-- Assumes nothing.
use Rattle.solving.proofs.StepLaws.{at_hand}
use Rattle.solving.proofs.unchecked.row_beside.Goals as goal

pub returns-then-j-at : goal.returns-then-j-at
returns-then-j-at g c =
    let a = c.args in
    at_hand g.S.Size.DIM a.j a.at (g.S.Row.Values.list a.known) a.x.now c.if-j-at.true c.requires.0 c.requires.1
