-- `unchecked::is_right_row` meets its promise: no mark had the stamp, so that marking finds whether the columns differ, with the own one before them if it is refused.
-- Assumes nothing.
use Rattle.patterns.proofs.MarkLaws.{right_refused, right_accepted}
use Rattle.patterns.proofs.unchecked.is_right_row.Goals.{then-refused, else-refused}
use Rattle.patterns.proofs.unchecked.is_right_row.Goals as goal

pub returns : goal.returns
returns c =
    let a = c.args in
    elim c.if-refused.branch [
      | then-refused w ↦ rw w.if-refused.true (right_refused a.stamp a.own a.row.now a.marks.now _ _ _ c.requires.2 c.requires.1 c.requires.0 c.is_row_fresh.ensures w.marks-is)
      | else-refused w ↦ rw w.if-refused.false (right_accepted a.stamp a.own a.row.now a.marks.now _ _ _ c.requires.2 c.requires.1 c.requires.0 c.is_row_fresh.ensures w.marks-is)
    ]
