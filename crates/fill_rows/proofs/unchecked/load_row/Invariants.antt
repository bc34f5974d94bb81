-- `unchecked::load_row` meets its promise: after e turns the first e columns have level 0.
-- Assumes nothing.
use mathlib.Core.Path.{◌≡◌}
use Rattle.base.specs.Iterate.{iterate}
use Rattle.fill.specs.Steps.{load_one}
use Rattle.fill_rows.proofs.unchecked.load_row.Given as goal

abbrev pub invariant-loop-column : goal.invariant-loop-column
invariant-loop-column l = l.row ≡ iterate (load_one l.columns) 0 l.column-index l.initial.row
