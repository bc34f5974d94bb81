-- `unchecked::spread` meets its promise: what is left of the pivot's entries leads where all of them lead.
-- Assumes nothing.
use mathlib.Core.Path.{◌≡◌}
use lib.ListN.{drop}
use Rattle.fill.specs.Steps.{spread_all}
use Rattle.fill_rows.proofs.unchecked.spread.Given as goal

abbrev pub invariant-loop-e : goal.invariant-loop-e
invariant-loop-e l = spread_all l.k l.i l.a l.columns l.levels l.initial.row ≡ spread_all l.k l.i l.a (drop l.e l.columns) (drop l.e l.levels) l.row
