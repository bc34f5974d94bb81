-- `unchecked::put_row` meets its promise: a row that is written out and cleared.
-- Assumes nothing.
use mathlib.Core.Path.{refl}
use native.Mathlib.Omega.{arith}
use Rattle.fill.proofs.PutLaws.{put_small, row_cleared}
use Rattle.fill_rows.proofs.unchecked.put_row.Goals as goal

pub overflow_add-splits : goal.overflow_add-splits
overflow_add-splits c = omega (arith, put_small c.requires _ c.count_marks-lower.ensures)

pub overflow_cast-splits : goal.overflow_cast-splits
overflow_cast-splits c = omega (arith, put_small c.requires _ c.count_marks-lower.ensures)

pub returns-clause-row_after : goal.returns-clause-row_after
returns-clause-row_after c = row_cleared c.requires _ _ c.clear.ensures refl
