-- `unchecked::put_words` meets its promise: the bytes are written if the number says so, and stay otherwise.
-- Assumes nothing.
use mathlib.Core.Path.{sym, ◌∙◌}
use Rattle.fill_way.proofs.unchecked.put_words.Goals as goal

pub returns-then-is_written : goal.returns-then-is_written
returns-then-is_written c = rw (sym c.is_written.ensures ∙ c.if-is_written.true) c.encode_indexes.ensures

pub returns-else-is_written : goal.returns-else-is_written
returns-else-is_written c = rw (sym c.is_written.ensures ∙ c.if-is_written.false)
