-- `check_row` meets its promise: each return answers the first check whose condition holds.
-- Assumes nothing.
use mathlib.Core.Path.{sym, ◌∙◌}
use Rattle.pattern_bytes.proofs.check_row.Goals as goal

pub returns-then-out_of_range : goal.returns-then-out_of_range
returns-then-out_of_range c = rw (sym c.out_of_range.ensures ∙ c.if-out_of_range.true)

pub returns-then-is_broken_index : goal.returns-then-is_broken_index
returns-then-is_broken_index c = rw (sym c.out_of_range.ensures ∙ c.if-out_of_range.false, sym c.is_broken_index.ensures ∙ c.if-is_broken_index.true)

pub returns : goal.returns
returns c = rw (sym c.out_of_range.ensures ∙ c.if-out_of_range.false, sym c.is_broken_index.ensures ∙ c.if-is_broken_index.false)
