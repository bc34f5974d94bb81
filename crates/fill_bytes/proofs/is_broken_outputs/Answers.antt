-- `is_broken_outputs` meets its promise: the first slice that is broken decides.
-- Assumes nothing.
use mathlib.Core.Path.{sym, ◌∙◌}
use Rattle.fill_bytes.proofs.is_broken_outputs.Goals as goal

pub returns-then-is_broken_pattern : goal.returns-then-is_broken_pattern
returns-then-is_broken_pattern c = rw (sym c.is_broken_pattern.ensures ∙ c.if-is_broken_pattern.true)

pub returns : goal.returns
returns c = rw (sym c.is_broken_pattern.ensures ∙ c.if-is_broken_pattern.false) c.is_broken_index.ensures
