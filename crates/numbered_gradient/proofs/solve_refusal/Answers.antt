-- `solve_refusal` meets its promise, case by case.
-- Assumes nothing.
use mathlib.Core.Path.{sym, ◌∙◌}
use Rattle.numbered_gradient.proofs.solve_refusal.Goals as goal

pub returns-then-large : goal.returns-then-large
returns-then-large c = rw c.if-large.true

pub returns-then-out_of_range : goal.returns-then-out_of_range
returns-then-out_of_range c = rw (c.if-large.false, sym c.out_of_range.ensures ∙ c.if-out_of_range.true)

pub returns : goal.returns
returns c = rw (c.if-large.false, sym c.out_of_range.ensures ∙ c.if-out_of_range.false)
