-- `is_broken_factor` meets its promise: the pattern decides first, then the bytes of the splits.
-- Assumes nothing.
use mathlib.Core.Path.{sym, ◌∙◌}
use Rattle.pattern_bytes.proofs.is_broken_factor.Goals as goal

pub returns-then-is_broken_pattern : goal.returns-then-is_broken_pattern
returns-then-is_broken_pattern c = rw (sym c.is_broken_pattern.ensures ∙ c.if-is_broken_pattern.true)

pub returns : goal.returns
returns c = rw (sym c.is_broken_pattern.ensures ∙ c.if-is_broken_pattern.false, ← c.rows_of.ensures)
