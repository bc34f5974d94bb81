-- `numbered::refusal` meets its promise, on its two ways out.
-- Assumes nothing.
use mathlib.Core.Path.{sym, ◌∙◌}
use Rattle.vector_bytes.proofs.numbered.refusal.Goals as goal

pub returns-then-out_of_range : goal.returns-then-out_of_range
returns-then-out_of_range c = rw (sym c.out_of_range.ensures ∙ c.if-out_of_range.true)

pub returns : goal.returns
returns c = rw (sym c.out_of_range.ensures ∙ c.if-out_of_range.false)
