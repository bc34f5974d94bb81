-- `is_broken_iluk` meets its promise: the patterns decide first, then the work.
-- Assumes nothing.
use mathlib.Core.Path.{sym, ◌∙◌}
use Rattle.fill_bytes.proofs.is_broken_iluk.Goals as goal

pub returns-then-is_broken_fill : goal.returns-then-is_broken_fill
returns-then-is_broken_fill c = rw (sym c.is_broken_fill.ensures ∙ c.if-is_broken_fill.true)

pub returns : goal.returns
returns c = rw (sym c.is_broken_fill.ensures ∙ c.if-is_broken_fill.false) c.is_broken_work.ensures
