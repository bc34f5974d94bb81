-- `is_misshapen_entries` meets its promise, on its two ways out.
-- Assumes nothing.
use mathlib.Core.Path.{sym, ◌∙◌}
use Rattle.entry_bytes.proofs.is_misshapen_entries.Goals as goal

pub returns-then-is_no_dim : goal.returns-then-is_no_dim
returns-then-is_no_dim c = rw (sym c.is_no_dim.ensures ∙ c.if-is_no_dim.true)

pub returns : goal.returns
returns c = rw (sym c.is_no_dim.ensures ∙ c.if-is_no_dim.false) c.is_broken_entries.ensures
