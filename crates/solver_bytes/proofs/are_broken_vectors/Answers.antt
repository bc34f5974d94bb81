-- `are_broken_vectors` meets its promise: the first slice that is broken decides.
-- Assumes nothing.
use mathlib.Core.Path.{sym, ◌∙◌}
use Rattle.solver_bytes.proofs.are_broken_vectors.Goals as goal

pub returns-then-is_broken_value : goal.returns-then-is_broken_value
returns-then-is_broken_value c = rw (sym c.is_broken_value.ensures ∙ c.if-is_broken_value.true)

pub returns-then-is_broken_value-2 : goal.returns-then-is_broken_value-2
returns-then-is_broken_value-2 c = rw (sym c.is_broken_value.ensures ∙ c.if-is_broken_value.false, sym c.is_broken_value-2.ensures ∙ c.if-is_broken_value-2.true)

pub returns-then-is_broken_value-3 : goal.returns-then-is_broken_value-3
returns-then-is_broken_value-3 c = rw (sym c.is_broken_value.ensures ∙ c.if-is_broken_value.false, sym c.is_broken_value-2.ensures ∙ c.if-is_broken_value-2.false, sym c.is_broken_value-3.ensures ∙ c.if-is_broken_value-3.true)

pub returns-then-is_broken_value-4 : goal.returns-then-is_broken_value-4
returns-then-is_broken_value-4 c = rw (sym c.is_broken_value.ensures ∙ c.if-is_broken_value.false, sym c.is_broken_value-2.ensures ∙ c.if-is_broken_value-2.false, sym c.is_broken_value-3.ensures ∙ c.if-is_broken_value-3.false, sym c.is_broken_value-4.ensures ∙ c.if-is_broken_value-4.true)

pub returns : goal.returns
returns c = rw (sym c.is_broken_value.ensures ∙ c.if-is_broken_value.false, sym c.is_broken_value-2.ensures ∙ c.if-is_broken_value-2.false, sym c.is_broken_value-3.ensures ∙ c.if-is_broken_value-3.false, sym c.is_broken_value-4.ensures ∙ c.if-is_broken_value-4.false) c.is_broken_value-5.ensures
