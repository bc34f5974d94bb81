-- `unchecked::part` meets its promise: the parts are read, and what the operation makes of them is put back.
-- Assumes nothing.
use mathlib.Core.Path.{◌∙◌}
use Rattle.lent.proofs.PartLaws.{part_put}
use Rattle.lent.proofs.unchecked.part.Goals as goal

pub returns : goal.returns
returns g c f means =
    let a = c.args in
    let made = rw (c.at.ensures, c.at-2.ensures) at (means _ _ _ c.op.ensures) in
    c.put.ensures.put ∙ part_put f g.V.Values.count a.k a.u.now a.v.now _ a.out.now c.requires.2 c.requires.3 c.put.ensures.whole made
