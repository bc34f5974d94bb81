-- `copy_refusal` meets its promise: A's size decides first, then the factor's.
-- Assumes nothing.
use mathlib.Core.Path.{sym, ◌∙◌}
use Rattle.numbered_factors.proofs.copy_refusal.Goals as goal

pub returns-then-is_too_large : goal.returns-then-is_too_large
returns-then-is_too_large c = rw (sym c.is_too_large.ensures ∙ c.if-is_too_large.true)

pub returns : goal.returns
returns c = rw (sym c.is_too_large.ensures ∙ c.if-is_too_large.false) c.refusal.ensures
