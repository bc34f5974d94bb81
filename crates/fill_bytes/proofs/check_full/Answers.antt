-- `check_full` meets its promise: each return answers the first check whose condition holds.
-- Assumes nothing.
use mathlib.Core.Path.{sym, ◌∙◌}
use Rattle.fill_bytes.proofs.check_full.Goals as goal

pub returns-then-out_of_range : goal.returns-then-out_of_range
returns-then-out_of_range c = rw (sym c.out_of_range.ensures ∙ c.if-out_of_range.true)

pub returns-then-is_broken_outputs : goal.returns-then-is_broken_outputs
returns-then-is_broken_outputs c = rw (sym c.out_of_range.ensures ∙ c.if-out_of_range.false, sym c.is_broken_outputs.ensures ∙ c.if-is_broken_outputs.true)

pub returns-then-is_wrong_output : goal.returns-then-is_wrong_output
returns-then-is_wrong_output c = rw (sym c.out_of_range.ensures ∙ c.if-out_of_range.false, sym c.is_broken_outputs.ensures ∙ c.if-is_broken_outputs.false, sym c.is_wrong_output.ensures ∙ c.if-is_wrong_output.true)

pub returns : goal.returns
returns c = rw (sym c.out_of_range.ensures ∙ c.if-out_of_range.false, sym c.is_broken_outputs.ensures ∙ c.if-is_broken_outputs.false, sym c.is_wrong_output.ensures ∙ c.if-is_wrong_output.false)
