-- `unchecked::sort_rows` meets its promise: before row i the rows below it are sorted, and their splits are set.
-- Assumes nothing.
use mathlib.Core.Path.{◌≡◌}
use lib.ListN.{length}
use Rattle.ilu0.specs.Steps.{InOrder, Going}
use Rattle.ilu0.proofs.unchecked.sort_rows.Given as goal

abbrev pub invariant-loop-i : goal.invariant-loop-i
invariant-loop-i l = (length l.columns ≡ length l.initial.columns) × InOrder l.starts (length l.initial.columns) (length l.initial.splits) × Going l.starts l.i l.initial.columns l.initial.splits l.columns l.splits
