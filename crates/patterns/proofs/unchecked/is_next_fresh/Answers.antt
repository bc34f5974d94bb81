-- `unchecked::is_next_fresh` meets its promise: the column is below the number of marks, and its mark is looked at before it is written.
-- Assumes nothing.
use mathlib.Core.Path.{refl, ap}
use mathlib.Core.Bool.{not}
use borrow.Author.Tests.{ne_eqb}
use Rattle.patterns.proofs.MarkLaws.{marked_one, marked_passes}
use Rattle.patterns.proofs.unchecked.is_next_fresh.Goals as goal

pub returns : goal.returns
returns c =
    marked_passes (marked_one c.args.stamp c.args.row.now c.args.k _ c.args.marks.now c.requires.0 refl) (ap not (ne_eqb _ _ c.if-marks-column.false))
