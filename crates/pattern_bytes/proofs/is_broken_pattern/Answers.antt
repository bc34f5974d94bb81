-- `is_broken_pattern` meets its promise: the first slice that is broken decides.
-- Assumes nothing.
use mathlib.Core.Path.{sym, ◌∙◌}
use Rattle.pattern_bytes.proofs.is_broken_pattern.Goals as goal

pub returns-then-is_broken_index : goal.returns-then-is_broken_index
returns-then-is_broken_index c = rw (sym c.is_broken_index.ensures ∙ c.if-is_broken_index.true)

pub returns : goal.returns
returns c = rw (sym c.is_broken_index.ensures ∙ c.if-is_broken_index.false) c.is_broken_index-2.ensures
