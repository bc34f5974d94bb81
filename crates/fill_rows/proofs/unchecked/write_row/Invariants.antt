-- `unchecked::write_row` meets its promise: after each turn the marks below j are written.
-- Assumes nothing.
use mathlib.Core.Path.{◌≡◌}
use lib.ListN.{length}
use Rattle.fill.specs.Fill.{columns_from, levels_from}
use Rattle.fill.specs.Steps.{levels_in, over}
use Rattle.fill_rows.proofs.unchecked.write_row.Given as goal

abbrev pub invariant-loop-j : goal.invariant-loop-j
invariant-loop-j l = (l.at ≡ length (columns_from (levels_in l.row) 0 l.j)) × (l.columns ≡ over (columns_from (levels_in l.row) 0 l.j) l.initial.columns) × (l.levels ≡ over (levels_from (levels_in l.row) 0 l.j) l.initial.levels)
