-- `unchecked::clear_if_written` meets its promise: the bytes are cleared if the number says so, and stay otherwise.
-- Assumes nothing.
use mathlib.Core.Path.{sym, ◌∙◌}
use Rattle.fill_way.proofs.WayLaws.{work_left}
use Rattle.fill_way.proofs.unchecked.clear_if_written.Goals as goal

pub returns-then-is_written : goal.returns-then-is_written
returns-then-is_written c = let a = c.args in
    work_left a.number a.bytes.now _ (rw (sym c.is_written.ensures ∙ c.if-is_written.true) c.clear_bytes.ensures)

pub returns-else-is_written : goal.returns-else-is_written
returns-else-is_written c = let a = c.args in
    work_left a.number a.bytes.now _ (rw (sym c.is_written.ensures ∙ c.if-is_written.false))
