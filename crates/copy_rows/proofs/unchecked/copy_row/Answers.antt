-- `unchecked::copy_row` meets its promise: a row is scattered or gathered.
-- Assumes nothing.
use Rattle.copy_rows.proofs.unchecked.copy_row.Goals as goal

pub mark_row-requires : goal.mark_row-requires
mark_row-requires g c = (c.requires.0, c.requires.1.marks)
