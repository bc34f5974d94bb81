-- `unchecked::is_next_taken` meets its promise: a column that has the stamp loses it.
-- Assumes nothing.
use mathlib.Core.Path.{refl, ◌∙◌}
use lib.ListN.{length-set}
use Rattle.copy_check.proofs.StampLaws.{take_more}
use Rattle.copy_check.proofs.unchecked.is_next_taken.Goals as goal

pub returns : goal.returns
returns c = (
  length-set c.args.marks.now _ 0 ∙ c.requires.0,
  λ e row old. take_more c.args.stamp row c.args.from.now c.args.marks.now c.args.k _ c.requires.2 refl c.if-from-k-ge4096.false c.if-marks-column.false old,
)
