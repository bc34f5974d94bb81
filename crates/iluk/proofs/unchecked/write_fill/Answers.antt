-- `unchecked::write_fill` meets its promise: the fill in clear columns, or all words 0.
-- Assumes nothing.
use mathlib.Core.Path.{◌∙◌}
use Rattle.fill.proofs.WholeLaws.{whole_done, zeros_as}
use Rattle.iluk.proofs.unchecked.write_fill.Goals as goal

pub returns-then-write_rows : goal.returns-then-write_rows
returns-then-write_rows c = let all = c.write_rows in
    whole_done _ _ _ _ _ _ _ _ _ _ _ _ all.ensures c.clear.ensures c.if-write_rows.true _
    (zeros_as c.clear_levels.ensures (all.auto.levels ∙ c.requires.shaped.levels_long))
