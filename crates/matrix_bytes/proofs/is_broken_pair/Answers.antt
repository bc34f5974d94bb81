-- `is_broken_pair` meets its promise: the first slice that is broken decides.
-- Assumes nothing.
use mathlib.Core.Path.{sym, ◌∙◌}
use Rattle.matrix_bytes.proofs.is_broken_pair.Goals as goal

pub returns-then-is_broken_value : goal.returns-then-is_broken_value
returns-then-is_broken_value c = rw (sym c.is_broken_value.ensures ∙ c.if-is_broken_value.true)

pub returns : goal.returns
returns c = rw (sym c.is_broken_value.ensures ∙ c.if-is_broken_value.false) c.is_broken_value-2.ensures
